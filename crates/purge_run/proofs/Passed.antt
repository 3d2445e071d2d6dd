-- The lists of what was found say what one pass over the rows makes.
use Rattle.std.proofs.Common.{subst, ◌≡◌, ◌↔◌, ℕ, Bool, true, false, cond, List, map, filter_map, refl, ap, ◌∙◌}
use Rattle.std.specs.List.{AllByRecursion, Contains}
use Rattle.std.specs.declared.option.Option.TheVariants.{None, Some}
use Rattle.list_laws.proofs.Alls.{all_from_contains}
use Rattle.list_laws.proofs.Containing.{contains_map, map_contains, contains_filter_map, filter_map_contains}
use Rattle.tree_fs.specs.Spot.{Spot}
use Rattle.tree_fs.specs.Places.{game_spot}
use Rattle.tree_fs.specs.Disk.{Disk, IsFile, is_one_file}
use Rattle.manifest_json.specs.declared.manifest.Row.{Row}
use Rattle.change_detect.specs.Classes.{staged_of}
use Rattle.desk_model.specs.Desk.{is_file}
use Rattle.plan_model.specs.Rows.{has_original}
use Rattle.plan_model.specs.Lists.{at_place}
use Rattle.plan_model.proofs.Values.{HasFile, the_file, file_true, is_file-at, one_file-tells}
use Rattle.plan_lists.specs.Order.{HasSameSpots}
use Rattle.plan_lists.proofs.Gathered.{gathered_of}
use Rattle.purge_run.specs.declared.cases.At.{At}
use Rattle.purge_run.specs.declared.cases.At.TheVariants.{Linked, Over, Bare}
use Rattle.purge_run.specs.declared.lists.Which.TheVariants.{Restored, Emptied, Backups}
use Rattle.purge_run.specs.Holds.{aside_at, bare_set, hold_row, purge_set}
use Rattle.purge_run.specs.Walk.{row_set, save_held, row_save, row_clear, purge_sets, purge_saves, purge_clears}
use Rattle.purge_run.specs.Told.{stands, emptied_by, at_by, told, bare_move, move_by, told_set, save_by, told_save, aside_by, told_aside, told_place}
use Rattle.purge_run.proofs.Tied.{RestoredAt, EmptiedAt}

module _ (a : Disk) (n : ℕ) where
  set_told : (r : Row) → told_set n (told a r) ≡ row_set a n r
  set_told r = ap (at_place (game_spot r.path)) (by_tests (is_one_file (a.now (game_spot r.path)) (a.now (staged_of r))) (is_file (a.now (game_spot r.path))))
    where
      by_kept : (b : Bool) → bare_move r b ≡ bare_set a r b
      by_kept true = refl
      by_kept false = refl

      by_tests : (one taken : Bool) → move_by n r (at_by one taken) (has_original a r) ≡ purge_set a n (hold_row r one taken)
      by_tests true taken = refl
      by_tests false true = refl
      by_tests false false = by_kept (has_original a r)

  save_told : (r : Row) → told_save n (told a r) ≡ row_save a n r
  save_told r = by_tests (is_one_file (a.now (game_spot r.path)) (a.now (staged_of r))) (is_file (a.now (game_spot r.path)))
    where
      by_tests : (one taken : Bool) → save_by n r (at_by one taken) ≡ save_held n (hold_row r one taken)
      by_tests true taken = refl
      by_tests false true = refl
      by_tests false false = refl

  pub sets_told : (rows : List Row) → filter_map (told_set n) (map (told a) rows) ≡ purge_sets a n rows
  sets_told rows = gathered_of (told_set n) (told a) (row_set a n) set_told rows

  pub saves_told : (rows : List Row) → filter_map (told_save n) (map (told a) rows) ≡ purge_saves a n rows
  saves_told rows = gathered_of (told_save n) (told a) (row_save a n) save_told rows

  pub clears_told : (rows : List Row) → filter_map (told_place Backups) (map (told a) rows) ≡ purge_clears a rows
  clears_told rows = gathered_of (told_place Backups) (told a) (row_clear a) (λ r. refl) rows

module _ (a : Disk) (rows : List Row) where
  -- the paths where originals come, and those where no file is left
  pub restored_are : (restored : List (List ℕ)) → HasSameSpots (map game_spot restored) (filter_map (told_place Restored) (map (told a) rows)) → (x : Spot) → Contains (map game_spot restored) x ↔ RestoredAt a rows x
  restored_are restored same x = (
    λ c.
        let t = contains_filter_map (told_place Restored) (map (told a) rows) x ((same x).0 c) in
        let m = contains_map (told a) rows t.0 t.1 in
        by_kept m.0 m.1 (has_original a m.0) refl (ap (told_place Restored) m.2 ∙ t.2),
    λ h. (same x).1 (filter_map_contains (told_place Restored) (map (told a) rows) (told a h.row) x (map_contains (told a) rows h.row h.listed)
        (ap (λ b. cond b (Some (game_spot h.row.path)) None) h.original ∙ ap Some h.here)),
  )
    where
      by_kept : (r : Row) → Contains rows r → (b : Bool) → has_original a r ≡ b → cond b (Some (game_spot r.path)) None ≡ Some x → RestoredAt a rows x
      by_kept r c true o e = record { row = r; listed = c; original = o; here = cc }
      by_kept r c false o e = absurd (cc)

  stood_at : (r : Row) (one taken : Bool) → is_one_file (a.now (game_spot r.path)) (a.now (staged_of r)) ≡ one → is_file (a.now (game_spot r.path)) ≡ taken → stands (at_by one taken) ≡ true → HasFile (a.now (game_spot r.path))
  stood_at r true taken e f s = (one_file-tells (a.now (game_spot r.path)) (a.now (staged_of r)) e).0
  stood_at r false true e f s = file_true (a.now (game_spot r.path)) f
  stood_at r false false e f s = absurd (cc)

  at_stood : (one taken : Bool) → taken ≡ true → stands (at_by one taken) ≡ true
  at_stood true taken e = refl
  at_stood false true e = refl
  at_stood false false e = absurd (cc)

  file_stands : (r : Row) → HasFile (a.now (game_spot r.path)) → stands (told a r).at ≡ true
  file_stands r (the_file k e) = at_stood (is_one_file (a.now (game_spot r.path)) (a.now (staged_of r))) (is_file (a.now (game_spot r.path))) (ap is_file e)

  pub emptied_are : (emptied : List (List ℕ)) → HasSameSpots (map game_spot emptied) (filter_map (told_place Emptied) (map (told a) rows)) → (x : Spot) → Contains (map game_spot emptied) x ↔ EmptiedAt a rows x
  emptied_are emptied same x = (
    λ c.
        let t = contains_filter_map (told_place Emptied) (map (told a) rows) x ((same x).0 c) in
        let m = contains_map (told a) rows t.0 t.1 in
        by_kept m.0 m.1 (has_original a m.0) (stands (told a m.0).at) refl refl (ap (told_place Emptied) m.2 ∙ t.2),
    λ h. (same x).1 (filter_map_contains (told_place Emptied) (map (told a) rows) (told a h.row) x (map_contains (told a) rows h.row h.listed)
        (ap (λ b. cond b None (emptied_by h.row (stands (told a h.row).at))) h.original ∙ ap (emptied_by h.row) (file_stands h.row h.stood) ∙ ap Some h.here)),
  )
    where
      by_kept : (r : Row) → Contains rows r → (b s : Bool) → has_original a r ≡ b → stands (told a r).at ≡ s → cond b None (emptied_by r s) ≡ Some x → EmptiedAt a rows x
      by_kept r c false true o s e = record {
        row = r;
        listed = c;
        original = o;
        stood = stood_at r (is_one_file (a.now (game_spot r.path)) (a.now (staged_of r))) (is_file (a.now (game_spot r.path))) refl refl s;
        here = cc;
      }
      by_kept r c false false o s e = absurd (cc)
      by_kept r c true s o t e = absurd (cc)

  pub emptied_stand : (emptied : List (List ℕ)) → HasSameSpots (map game_spot emptied) (filter_map (told_place Emptied) (map (told a) rows)) → AllByRecursion (λ p. IsFile a (game_spot p)) emptied
  emptied_stand emptied same =
      all_from_contains (λ p. IsFile a (game_spot p)) emptied
      (λ p c. let at = (emptied_are emptied same (game_spot p)).0 (map_contains game_spot emptied p c) in is_file-at a (game_spot p) (subst (λ x. HasFile (a.now x)) at.here at.stood))

module _ (a : Disk) (n : ℕ) (rows : List Row) where
  -- the names of the places where files are set aside
  pub record IsSetAside (names : List (List ℕ)) : Type 0 where
    pub row : Row
    pub listed : Contains rows row
    pub at : (told a row).at ≡ Over
    pub here : (aside_at n row.path).names ≡ names

  pub asides_are : (names : List (List ℕ)) → Contains (filter_map (told_aside n) (map (told a) rows)) names ↔ IsSetAside names
  asides_are names = (
    λ c.
        let t = contains_filter_map (told_aside n) (map (told a) rows) names c in
        let m = contains_map (told a) rows t.0 t.1 in
        by_at m.0 m.1 (told a m.0).at refl (ap (told_aside n) m.2 ∙ t.2),
    λ h. filter_map_contains (told_aside n) (map (told a) rows) (told a h.row) names (map_contains (told a) rows h.row h.listed) (ap (aside_by n h.row) h.at ∙ ap Some h.here),
  )
    where
      by_at : (r : Row) → Contains rows r → (at : At) → (told a r).at ≡ at → aside_by n r at ≡ Some names → IsSetAside names
      by_at r c Linked o e = absurd (cc)
      by_at r c Over o e = record { row = r; listed = c; at = o; here = cc }
      by_at r c Bare o e = absurd (cc)
