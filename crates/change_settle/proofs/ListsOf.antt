-- What the lists of a plan are made of, where the tree tells and where it doesn't.
use Rattle.std.proofs.Common.{◌≡◌, ◌⊎◌, ◌↔◌, ℕ, Bool, true, false, if◌then◌else◌, List, [], ◌∷◌, map, filter_map, refl, sym, ap, ◌∙◌, subst, inl, inr}
use Rattle.std.specs.List.{AllByRecursion, Contains}
use Rattle.std.specs.Option.{option_map}
use Rattle.std.specs.declared.option.Option.{Option}
use Rattle.std.specs.declared.option.Option.TheVariants.{None, Some}
use Rattle.list_laws.proofs.Alls.{all_item, all_unmap, all_from_contains}
use Rattle.list_laws.proofs.Containing.{contains_map, map_contains, contains_filter_map, filter_map_contains}
use Rattle.rel_paths.specs.Names.{IsFreePath}
use Rattle.tree_fs.specs.declared.name.Kind.TheVariants.{File}
use Rattle.tree_fs.specs.declared.place.Place.{Place}
use Rattle.tree_fs.specs.declared.place.Root.{Root}
use Rattle.tree_fs.specs.declared.place.Root.TheVariants.{Game, Stage, Keep}
use Rattle.tree_fs.specs.Spot.{Spot, spot_of, IsBelow}
use Rattle.tree_fs.specs.Places.{game_spot}
use Rattle.tree_fs.specs.Disk.{Disk, IsFile, kind_of}
use Rattle.tree_fs.proofs.KindOf.{kind-file}
use Rattle.tree_fs.proofs.Spots.{same_place}
use Rattle.backup_keep.specs.Places.{backup_spot, aside_spot}
use Rattle.manifest_json.specs.declared.manifest.Row.{Row}
use Rattle.manifest_json.specs.declared.manifest.Manifest.{Manifest}
use Rattle.manifest_json.specs.Sound.{IsRow, AreRows}
use Rattle.change_detect.specs.Classes.{staged_of}
use Rattle.move_plan.specs.declared.plan.SetRow.{SetRow}
use Rattle.desk_model.specs.Settled.{Choice, Deed, left_whole, put_aside, imported, reverted, accepted, linked_again, staged_again, let_go, dropped, deed_of}
use Rattle.plan_model.specs.Rows.{has_original}
use Rattle.plan_model.specs.Moves.{Move}
use Rattle.plan_model.specs.Lists.{spotted}
use Rattle.plan_model.proofs.Rows.{above_free}
use Rattle.plan_model.proofs.Values.{is_file-at}
use Rattle.plan_lists.specs.Order.{HasSameSpots}
use Rattle.plan_lists.proofs.Gathered.{gathered_of}
use Rattle.change_settle.specs.declared.tasks.Task.{Task}
use Rattle.change_settle.specs.declared.walk.RowStep.{RowStep}
use Rattle.change_settle.specs.Above.{IsAboveOne, IsAsideAbove, AreAllAbove, game_path, game_paths}
use Rattle.change_settle.specs.Deeds.{next_row, next_rows}
use Rattle.change_settle.specs.Lists.{saved_by}
use Rattle.change_settle.specs.Plans.{CanSettle}
use Rattle.change_settle.specs.Refusals.{restored_spot}
use Rattle.change_settle.specs.Rows.{EmptiesFile, HasItsFile}
use Rattle.change_settle.specs.Steps.{step_task}
use Rattle.change_settle.specs.Tasks.{Step, step_seen, step_row, step_set, step_emptied, set_told, set_back, behind_if, steps_of, tasks_of, task_restored, task_row, task_seen, task_next, told}
use Rattle.change_settle.proofs.NextRows.{some_filtered}
use Rattle.change_settle.proofs.Premises.{told_at}
use Rattle.change_settle.proofs.Stands.{original_file}

-- The rows of the steps

pub good_steps : (steps : List RowStep) (rows : List Row) → map step_row steps ≡ rows → AreRows rows → AllByRecursion (λ s. IsRow (step_row s)) steps
good_steps steps rows is kept = all_unmap IsRow step_row steps (subst (AllByRecursion IsRow) (sym is) kept.good)

pub rows_of_steps : (steps : List RowStep) (tasks : List Task) (rows : List Row) → map step_task steps ≡ map task_seen tasks → map task_row tasks ≡ rows → map step_row steps ≡ rows
rows_of_steps steps tasks rows same is = sym (of_steps_row steps) ∙ ap (map (λ (t : Row × Deed). t.0)) same ∙ of_tasks_row tasks ∙ is
  where
    of_steps_row : (steps : List RowStep) → map (λ (t : Row × Deed). t.0) (map step_task steps) ≡ map step_row steps
    of_steps_row [] = refl
    of_steps_row (s ∷ steps) = ap (λ l. step_row s ∷ l) (of_steps_row steps)

    of_tasks_row : (tasks : List Task) → map (λ (t : Row × Deed). t.0) (map task_seen tasks) ≡ map task_row tasks
    of_tasks_row [] = refl
    of_tasks_row (t ∷ tasks) = ap (λ l. task_row t ∷ l) (of_tasks_row tasks)

abbrev seen_task : Step → Row × Deed
seen_task s = (s.row, s.deed)

seen_tasks : (steps : List RowStep) → map seen_task (map step_seen steps) ≡ map step_task steps
seen_tasks [] = refl
seen_tasks (s ∷ steps) = ap (λ l. step_task s ∷ l) (seen_tasks steps)

module _ (choice : Choice) (a : Disk) where
  of_steps : (rows : List Row) → map seen_task (steps_of choice a rows) ≡ tasks_of choice a rows
  of_steps [] = refl
  of_steps (r ∷ rows) = ap (λ l. (r, deed_of choice a r) ∷ l) (of_steps rows)

  pub tasks_from : (steps : List RowStep) (rows : List Row) → map step_seen steps ≡ steps_of choice a rows → map step_task steps ≡ tasks_of choice a rows
  tasks_from steps rows is = sym (seen_tasks steps) ∙ ap (map seen_task) is ∙ of_steps rows

  -- the rows that are left
  pub rows_from : (rows : List Row) → filter_map (task_next a) (tasks_of choice a rows) ≡ next_rows choice a rows
  rows_from rows = gathered_of (task_next a) (λ (r : Row). (r, deed_of choice a r)) (next_row choice a) (λ r. refl) rows ∙ sym (some_filtered (next_row choice a) rows)

  module _ (old : Manifest) (n : ℕ) (can : CanSettle choice a old n) where
    at_file : (y x : Spot) → Some y ≡ Some x → kind_of a y ≡ File → IsFile a x
    at_file y x e k = let is : y ≡ x = cc in subst (IsFile a) is (kind-file a y k).1

    its_file : (r : Row) → Contains old.rows r → (d : Deed) → deed_of choice a r ≡ d → HasItsFile a (r, d)
    its_file r c put_aside is x e = at_file (staged_of r) x e (told_at choice a old n can r c put_aside is).staged
    its_file r c reverted is x e = at_file (staged_of r) x e (told_at choice a old n can r c reverted is).staged
    its_file r c linked_again is x e = at_file (staged_of r) x e (told_at choice a old n can r c linked_again is).staged
    its_file r c imported is x e = at_file (game_spot r.path) x e (told_at choice a old n can r c imported is).here
    its_file r c accepted is x e = at_file (game_spot r.path) x e (told_at choice a old n can r c accepted is).here
    its_file r c staged_again is x e = at_file (game_spot r.path) x e (told_at choice a old n can r c staged_again is).here
    its_file r c left_whole is x e = absurd (cc)
    its_file r c let_go is x e = absurd (cc)
    its_file r c dropped is x e = absurd (cc)

    pub files_there : (steps : List RowStep) → map step_task steps ≡ tasks_of choice a old.rows → AllByRecursion (λ s. HasItsFile a (step_task s)) steps
    files_there steps is =
        all_unmap (HasItsFile a) step_task steps (subst (AllByRecursion (HasItsFile a)) (sym is) (all_from_contains (HasItsFile a) (tasks_of choice a old.rows) (λ t c.
        let r = contains_map (λ (r : Row). (r, deed_of choice a r)) old.rows t c in
        subst (HasItsFile a) r.2 (its_file r.0 r.1 (deed_of choice a r.0) refl))))

    -- a file goes off its place where one was
    emptied_file : (r : Row) → Contains old.rows r → (d : Deed) → deed_of choice a r ≡ d → EmptiesFile a (told a (r, d))
    emptied_file r c let_go is x e = by_original (has_original a r) refl e
      where
        some_is : (y : Spot) → Some y ≡ Some x → y ≡ x
        some_is y e = cc

        by_original : (b : Bool) → has_original a r ≡ b → Some (if b then backup_spot r.path else game_spot r.path) ≡ Some x → IsFile a x
        by_original true o e = subst (IsFile a) (some_is (backup_spot r.path) e) (is_file-at a (backup_spot r.path) (original_file a r o))
        by_original false o e = at_file (game_spot r.path) x e (told_at choice a old n can r c let_go is).here
    emptied_file r c dropped is x e = by_original (has_original a r) refl e
      where
        some_is : (y : Spot) → Some y ≡ Some x → y ≡ x
        some_is y e = cc

        by_original : (b : Bool) → has_original a r ≡ b → behind_if r b ≡ Some x → IsFile a x
        by_original true o e = subst (IsFile a) (some_is (backup_spot r.path) e) (is_file-at a (backup_spot r.path) (original_file a r o))
        by_original false o e = absurd (cc)
    emptied_file r c put_aside is x e = absurd (cc)
    emptied_file r c reverted is x e = absurd (cc)
    emptied_file r c linked_again is x e = absurd (cc)
    emptied_file r c imported is x e = absurd (cc)
    emptied_file r c accepted is x e = absurd (cc)
    emptied_file r c staged_again is x e = absurd (cc)
    emptied_file r c left_whole is x e = absurd (cc)

    pub emptied_stand : (steps : List RowStep) → map step_seen steps ≡ steps_of choice a old.rows → AllByRecursion (λ s. EmptiesFile a (step_seen s)) steps
    emptied_stand steps is =
        all_unmap (EmptiesFile a) step_seen steps (subst (AllByRecursion (EmptiesFile a)) (sym is) (all_from_contains (EmptiesFile a) (steps_of choice a old.rows) (λ s c.
        let r = contains_map (λ (r : Row). told a (r, deed_of choice a r)) old.rows s c in
        subst (EmptiesFile a) r.2 (emptied_file r.0 r.1 (deed_of choice a r.0) refl))))

-- the paths at which a file goes off
pub emptied_files : (a : Disk) (steps : List RowStep) (emptied : List (List ℕ)) → HasSameSpots (map game_spot emptied) (filter_map step_emptied (map step_seen steps))
    → AllByRecursion (λ s. EmptiesFile a (step_seen s)) steps → AllByRecursion (λ p. IsFile a (game_spot p)) emptied
emptied_files a steps emptied same stood = all_from_contains (λ p. IsFile a (game_spot p)) emptied at_path
  where
    at_path : (p : List ℕ) → Contains emptied p → IsFile a (game_spot p)
    at_path p c =
        let s = contains_filter_map step_emptied (map step_seen steps) (game_spot p) ((same (game_spot p)).0 (map_contains game_spot emptied p c)) in
        let k = contains_map step_seen steps s.0 s.1 in
        all_item (λ s. EmptiesFile a (step_seen s)) steps k.0 stood k.1 (game_spot p) (ap step_emptied k.2 ∙ s.2)

-- The made folders below the game folder

path_is : (p : Place) (path : List ℕ) → game_path p ≡ Some path → spot_of p ≡ game_spot path
path_is p path e = ap spot_of (by p.root p.rel refl refl e)
  where
    by : (root : Root) (rel : Option (List ℕ)) → p.root ≡ root → p.rel ≡ rel → game_path (record { root = root; rel = rel }) ≡ Some path → p ≡ record { root = Game; rel = Some path }
    by Game rel r s e = λ i. record { root = r i; rel = (s ∙ e) i }
    by Stage rel r s e = absurd (cc)
    by Keep rel r s e = absurd (cc)

path_at : (p : Place) (path : List ℕ) → spot_of p ≡ game_spot path → game_path p ≡ Some path
path_at p path e = ap game_path (same_place p (record { root = Game; rel = Some path }) e)

pub game_paths_are : (places : List Place) (path : List ℕ) → (Contains (game_paths places) path ↔ Contains (map spot_of places) (game_spot path))
game_paths_are places path = (
  λ c. let p = contains_filter_map game_path places path c in subst (Contains (map spot_of places)) (path_is p.0 path p.2) (map_contains spot_of places p.0 p.1),
  λ c. let p = contains_map spot_of places (game_spot path) c in filter_map_contains game_path places p.0 path p.1 (path_at p.0 path p.2),
)

-- a file that a set takes off its place stays below the aside folder
back_kept : (n : ℕ) (r : Row) (d : Deed) (b : Bool) (x : Spot) (v : Move) (y : Spot) → set_told n r d b ≡ Some (x, v) → v.back ≡ Some y → y.root ≡ Keep
back_kept n r d b x v y e back = by d e
  where
    backed : (z : Spot) (from : Option Spot) (o : Option Spot) → ◌≡◌ {A = Option (Spot × Move)} (Some (z, record { from = from; back = o })) (Some (x, v)) → o ≡ Some y
    backed z from o e = let t : ◌≡◌ {A = Spot × Move} (z, record { from = from; back = o }) (x, v) = cc in ap (λ (w : Spot × Move). w.1.back) t ∙ back

    kept : (z : Spot) → Some (aside_spot n z) ≡ Some y → y.root ≡ Keep
    kept z e = let t : aside_spot n z ≡ y = cc in sym (ap (λ (w : Spot). w.root) t)

    none_kept : (P : Type 0) → None ≡ Some y → P
    none_kept P e = absurd (cc)

    by_original : (b : Bool) → set_back r b ≡ Some (x, v) → y.root ≡ Keep
    by_original true e = none_kept (y.root ≡ Keep) (backed (game_spot r.path) (Some (backup_spot r.path)) None e)
    by_original false e = absurd (cc)

    by : (d : Deed) → set_told n r d b ≡ Some (x, v) → y.root ≡ Keep
    by put_aside e = kept (game_spot r.path) (backed (game_spot r.path) (Some (staged_of r)) (Some (aside_spot n (game_spot r.path))) e)
    by reverted e = kept (game_spot r.path) (backed (game_spot r.path) (Some (staged_of r)) (Some (aside_spot n (game_spot r.path))) e)
    by linked_again e = none_kept (y.root ≡ Keep) (backed (game_spot r.path) (Some (staged_of r)) None e)
    by let_go e = kept (game_spot r.path) (backed (game_spot r.path) (behind_if r b) (Some (aside_spot n (game_spot r.path))) e)
    by dropped e = by_original b e
    by imported e = kept (staged_of r) (backed (staged_of r) (Some (game_spot r.path)) (Some (aside_spot n (staged_of r))) e)
    by staged_again e = none_kept (y.root ≡ Keep) (backed (staged_of r) (Some (game_spot r.path)) None e)
    by left_whole e = absurd (cc)
    by accepted e = absurd (cc)

module _ (n : ℕ) (steps : List RowStep) (rows : List Row) (rows_is : map step_row steps ≡ rows) (good : AreRows rows) (sets : List SetRow) (saves : List (Place × Place))
    (sets_are : (v : Spot × Move) → (Contains (map spotted sets) v ↔ Contains (filter_map (step_set n) (map step_seen steps)) v)) (saves_are : saves ≡ filter_map saved_by sets) where
  save_kept : (v : Place × Place) → Contains saves v → v.1.root ≡ Keep
  save_kept v c =
      let f = contains_filter_map saved_by sets v (subst (λ l. Contains l v) saves_are c) in
      by_back f.0 f.1 f.0.back refl f.2
    where
      by_back : (row : SetRow) → Contains sets row → (o : Option Place) → row.back ≡ o → option_map {U = Place × Place} (λ back. (row.to, back)) o ≡ Some v → v.1.root ≡ Keep
      by_back row d None e h = absurd (cc)
      by_back row d (Some b) e h =
          let t : ◌≡◌ {A = Place × Place} (row.to, b) v = cc in
          let s = contains_filter_map (step_set n) (map step_seen steps) (spotted row) ((sets_are (spotted row)).0 (map_contains spotted sets row d)) in
          sym (ap (λ (z : Place × Place). z.1.root) t) ∙ back_kept n s.0.row s.0.deed s.0.original (spotted row).0 (spotted row).1 (spot_of b) s.2 (ap (option_map spot_of) e)

  aside_outside : (there : Bool) (path : List ℕ) → IsAsideAbove there saves (game_spot path) → ⊥
  aside_outside there path h =
      let v = contains_map (λ (v : Place × Place). spot_of v.1) saves h.above.place h.above.among in
      let no : Game ≡ Keep = sym h.above.above.below.root ∙ sym (ap (λ (z : Spot). z.root) v.2) ∙ save_kept v.0 v.1 in cc

  restored_free : (path : List ℕ) → IsAboveOne (filter_map task_restored (map step_task steps)) (game_spot path) → IsFreePath path
  restored_free path h =
      let t = contains_filter_map task_restored (map step_task steps) h.place h.among in
      let s = contains_map step_task steps t.0 t.1 in
      by_deed (step_task s.0).0 (step_task s.0).1 (row_good s.0 s.1) (ap task_restored s.2 ∙ t.2)
    where
      row_good : (s : RowStep) → Contains steps s → IsRow (step_row s)
      row_good s c = all_item (λ s. IsRow (step_row s)) steps s (good_steps steps rows rows_is good) c

      by_deed : (r : Row) (d : Deed) → IsRow r → restored_spot r d ≡ Some h.place → IsFreePath path
      by_deed r linked_again g e = let at : game_spot r.path ≡ h.place = cc in above_free path r.path (subst (IsBelow (game_spot path)) (sym at) h.above.below) g.path
      by_deed r staged_again g e = let at : staged_of r ≡ h.place = cc in let no : Game ≡ Stage = sym h.above.below.root ∙ sym (ap (λ (z : Spot). z.root) at) in absurd (cc)
      by_deed r left_whole g e = absurd (cc)
      by_deed r put_aside g e = absurd (cc)
      by_deed r imported g e = absurd (cc)
      by_deed r reverted g e = absurd (cc)
      by_deed r accepted g e = absurd (cc)
      by_deed r let_go g e = absurd (cc)
      by_deed r dropped g e = absurd (cc)

  pub made_free : (missing made : List Place) (there : Bool) → AreAllAbove (filter_map task_restored (map step_task steps)) (map spot_of missing)
      → ((s : Spot) → (Contains (map spot_of made) s ↔ Contains (map spot_of missing) s ⊎ IsAsideAbove there saves s)) → AllByRecursion IsFreePath (game_paths made)
  made_free missing made there above are = all_from_contains IsFreePath (game_paths made) (λ path c. elim ((are (game_spot path)).0 ((game_paths_are made path).0 c)) [
    | inl m ↦ restored_free path (above (game_spot path) m)
    | inr k ↦ absurd (aside_outside there path k)
  ])
