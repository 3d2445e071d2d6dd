-- The lists of the steps, put together to the plan of a settlement.
use Rattle.std.proofs.Common.{◌≡◌, ◌⊎◌, ◌↔◌, ◌<◌, ℕ, Bool, List, [], ◌∷◌, ◌++◌, codes, map, filter_map, refl, sym, ap, ◌∙◌, subst, inl, inr, arith}
use Rattle.std.specs.List.{Contains}
use Rattle.std.specs.List.Sorted.{IsStrictlySortedBy}
use Rattle.std.specs.Option.{option_map}
use Rattle.std.specs.Ordering.{nat_cmp}
use Rattle.std.specs.Cmp.Lexicographic.{slice_cmp}
use Rattle.std.specs.declared.cmp.Ordering.TheVariants.{Less, Equal}
use Rattle.std.specs.Fmt.{decimal}
use Rattle.std.specs.List.{cons_option}
use Rattle.std.specs.declared.option.Option.{Option}
use Rattle.std.specs.declared.option.Option.TheVariants.{None, Some}
use Rattle.std.proofs.lemmas.Bool.Decides.{nat_tests}
use Rattle.list_laws.proofs.Alls.{all_append, all_item, all_from_contains}
use Rattle.list_laws.proofs.Containing.{contains_here, contains_there, contains_map, map_contains, contains_filter_map, filter_map_contains}
use Rattle.rel_paths.specs.Names.{names_of}
use Rattle.tree_fs.specs.declared.place.Root.{Root}
use Rattle.tree_fs.specs.declared.place.Root.TheVariants.{Keep}
use Rattle.tree_fs.specs.declared.place.Place.{Place}
use Rattle.tree_fs.specs.Spot.{Spot, spot_of}
use Rattle.tree_fs.specs.Texts.{root_word, place_text}
use Rattle.tree_fs.specs.Places.{game_spot}
use Rattle.tree_fs.specs.Disk.{Disk, kind_of}
use Rattle.tree_fs.specs.declared.name.Kind.TheVariants.{Absent}
use Rattle.tree_fs.proofs.Spots.{same_place, not_nameless}
use Rattle.backup_keep.specs.Places.{aside_folder, aside_spot}
use Rattle.backup_keep.proofs.Asided.{aside_text, aside_names}
use Rattle.manifest_json.specs.declared.manifest.Row.{Row}
use Rattle.manifest_json.specs.declared.manifest.Manifest.{Manifest}
use Rattle.manifest_json.specs.Paths as paths
use Rattle.move_plan.specs.declared.plan.SetRow.{SetRow}
use Rattle.move_plan.specs.declared.plan.Plan.{Plan}
use Rattle.move_plan.specs.Entries.{Listed, listed, folder, save, set, clear}
use Rattle.move_plan.specs.Rising.{AreRising}
use Rattle.move_plan.specs.Rules.{InOrder, KeepsRule, in_order}
use Rattle.desk_model.specs.Settled.{Choice, deed_of}
use Rattle.plan_model.specs.Moves.{Move, move_of, Moves, LaidOut}
use Rattle.plan_model.specs.Lists.{spotted, ends_of}
use Rattle.plan_model.specs.Folders.{IsMade, OwnLaidOut}
use Rattle.plan_model.specs.Sound.{Backs}
use Rattle.plan_lists.specs.Off.{GoesByOwn, AreParted}
use Rattle.plan_lists.specs.Search.{AreFalling}
use Rattle.plan_lists.proofs.Gathered.{map_itself}
use Rattle.plan_lists.proofs.Ordered.{rising_listed, falling_listed, has_is, offs_are}
use Rattle.change_settle.specs.Above.{IsAboveOne, IsAsideAbove}
use Rattle.change_settle.specs.Deeds.{settle_moves, next_rows, Saves}
use Rattle.change_settle.specs.Walk.{settle_sets, settle_saves, settle_clears}
use Rattle.change_settle.specs.Refusals.{SetsSomeAside}
use Rattle.change_settle.specs.Plans.{CanSettle, SettlePlan}
use Rattle.change_settle.specs.Tasks.{Step, told, steps_of, tasks_of, task_restored, step_set, step_clear, step_emptied, step_holding}
use Rattle.change_settle.specs.Lists.{saved_by, IsFunction}
use Rattle.change_settle.proofs.Sets.{set_tells}
use Rattle.change_settle.proofs.RowPlaces.{RowPlace, in_game, in_mod}
use Rattle.change_settle.proofs.Saved.{origin}
use Rattle.change_settle.proofs.Stands.{Stands, at_row, at_aside, set_stands, Back, aside, nothing, set_back, backs_saved}
use Rattle.change_settle.proofs.Walks.{sets-are, laid_by_pass}
use Rattle.change_settle.proofs.Walks.{saves-are as walked-saves}
use Rattle.change_settle.proofs.Gets.{made-missing, missing-made}
use Rattle.change_settle.proofs.MadeNew.{missing_for}
use Rattle.change_settle.proofs.FoldersTied.{HoldsAt, EmptiedAt, goes_by_own, own_laid_out}
use Rattle.change_settle.proofs.Listed.{place_cmp, sets_told, clears_told}

-- The order of what is set aside

common_front : (xs a b : List ℕ) → slice_cmp nat_cmp (xs ++ a) (xs ++ b) ≡ slice_cmp nat_cmp a b
common_front [] a b = refl
common_front (x ∷ xs) a b = rw (itself x) (common_front xs a b)
  where
    itself : (n : ℕ) → nat_cmp n n ≡ Equal
    itself n = grind (arith, nat_tests)

abbrev aside_of_path : ℕ → Root → List ℕ → Place
aside_of_path n r t = record { root = Keep; rel = Some (aside_text n r t) }

-- the places where files are set aside under one number are in the order of where they come from
aside_before : (n : ℕ) → n < 4294967296 → (p q b c : Place) (t u : List ℕ) → p.rel ≡ Some t → q.rel ≡ Some u → spot_of b ≡ aside_spot n (spot_of p) → spot_of c ≡ aside_spot n (spot_of q) → place_cmp p q ≡ Less → place_cmp b c ≡ Less
aside_before n small p q b c t u e f here there less =
    (λ i. slice_cmp nat_cmp (text p b t e here i) (text q c u f there i))
    ∙ common_front (codes "keep/aside/") (decimal n ++ 47 ∷ (root_word p.root ++ 47 ∷ t)) (decimal n ++ 47 ∷ (root_word q.root ++ 47 ∷ u))
    ∙ common_front (decimal n) (47 ∷ (root_word p.root ++ 47 ∷ t)) (47 ∷ (root_word q.root ++ 47 ∷ u))
    ∙ common_front (47 ∷ []) (root_word p.root ++ 47 ∷ t) (root_word q.root ++ 47 ∷ u)
    ∙ (λ i. slice_cmp nat_cmp (whole p t e i) (whole q u f i))
    ∙ less
  where
    text : (p b : Place) (t : List ℕ) → p.rel ≡ Some t → spot_of b ≡ aside_spot n (spot_of p) → place_text b ≡ place_text (aside_of_path n p.root t)
    text p b t e here = ap place_text (same_place b (aside_of_path n p.root t) (here ∙ (λ i. aside_spot n (spot_of (record { root = p.root; rel = e i }))) ∙ sym (λ i. record { root = Keep; names = aside_names n p.root t small i })))

    whole : (p : Place) (t : List ℕ) → p.rel ≡ Some t → root_word p.root ++ 47 ∷ t ≡ place_text p
    whole p t e = sym (λ i. place_text (record { root = p.root; rel = e i }))

saved_is : (row : SetRow) (o : Option Place) (s : Place × Place) → option_map {U = Place × Place} (λ back. (row.to, back)) o ≡ Some s → (b : Place) × (o ≡ Some b) × (s.0 ≡ row.to) × (s.1 ≡ b)
saved_is row None s e = absurd (cc)
saved_is row (Some b) s e =
    let t : ◌≡◌ {A = Place × Place} (row.to, b) s = cc in
    (b, refl, sym (ap (λ (z : Place × Place). z.0) t), sym (ap (λ (z : Place × Place). z.1) t))

-- the saves of sets that rise, do so too
module _ (n : ℕ) (small : n < 4294967296) where
  abbrev GoesAside : SetRow → Type 0
  GoesAside row = (b : Place) → row.back ≡ Some b → (t : List ℕ) × (row.to.rel ≡ Some t) × (spot_of b ≡ aside_spot n (spot_of row.to))

  saves_rise : (sets : List SetRow) → ((row : SetRow) → Contains sets row → GoesAside row) → AreRising (map (λ (row : SetRow). row.to) sets) → AreRising (map (λ (s : Place × Place). s.1) (filter_map saved_by sets))
  unfolding IsStrictlySortedBy
  saves_rise [] good rise = tt
  saves_rise (row ∷ rest) good rise = by_back row.back refl (saves_rise rest (λ r c. good r (contains_there row r rest c)) rise.1)
    where
      later : (b : Place) → row.back ≡ Some b → (p : Place) → Contains (map (λ (s : Place × Place). s.1) (filter_map saved_by rest)) p → place_cmp b p ≡ Less
      later b e p c =
          let m = contains_map (λ (s : Place × Place). s.1) (filter_map saved_by rest) p c in
          let f = contains_filter_map saved_by rest m.0 m.1 in
          let s = saved_is f.0 f.0.back m.0 f.2 in
          let here = good row (contains_here row rest) b e in
          let there = good f.0 (contains_there row f.0 rest f.1) s.0 s.1 in
          let less = all_item (λ q. place_cmp row.to q ≡ Less) (map (λ (r : SetRow). r.to) rest) f.0.to rise.0 (map_contains (λ (r : SetRow). r.to) rest f.0 f.1) in
          subst (λ q. place_cmp b q ≡ Less) (sym s.3 ∙ m.2) (aside_before n small row.to f.0.to b s.0 here.0 there.0 here.1 there.1 here.2 there.2 less)

      by_back : (o : Option Place) → row.back ≡ o → AreRising (map (λ (s : Place × Place). s.1) (filter_map saved_by rest)) → AreRising (map (λ (s : Place × Place). s.1) (cons_option (option_map {U = Place × Place} (λ back. (row.to, back)) o) (filter_map saved_by rest)))
      by_back None e h = h
      by_back (Some b) e h = (all_from_contains (λ q. place_cmp b q ≡ Less) (map (λ (s : Place × Place). s.1) (filter_map saved_by rest)) (later b e), h)

module _ (choice : Choice) (a : Disk) (old : Manifest) (n : ℕ) (can : CanSettle choice a old n) (plan : Plan)
    (sets : (v : Spot × Move) → (Contains (map spotted plan.sets) v ↔ Contains (settle_sets choice a old.rows n) v))
    (saves : plan.saves ≡ filter_map saved_by plan.sets) where
  abbrev m : Moves
  m = settle_moves choice a old.rows n

  -- a set of the plan is one of the settlement
  set_is : (row : SetRow) → Contains plan.sets row → m.sets (spot_of row.to) ≡ Some (move_of row)
  set_is row c = (sets-are choice a old.rows n can.rows (spot_of row.to) (move_of row)).0 ((sets (spotted row)).0 (map_contains spotted plan.sets row c))

  backs : (row : SetRow) (b : Place) → Contains plan.sets row → row.back ≡ Some b → Backs m (spot_of row.to) (spot_of b)
  backs row b c e = record { move = move_of row; set = set_is row c; back = ap (option_map spot_of) e }

  named : (row : SetRow) → Contains plan.sets row → (o : Option (List ℕ)) → row.to.rel ≡ o → (t : List ℕ) × (o ≡ Some t)
  named row c (Some t) e = (t, refl)
  named row c None e = absurd (by_stands (set_stands choice a old n can (spot_of row.to) (move_of row) (set_tells choice a old.rows n (spot_of row.to) (move_of row) (set_is row c))))
    where
      top : (spot_of row.to).names ≡ []
      top = λ i. (spot_of (record { root = row.to.root; rel = e i })).names

      by_place : RowPlace old.rows (spot_of row.to) → ⊥
      by_place (in_game r d h) = not_nameless r.path (ap (λ (s : Spot). s.names) h ∙ top)
      by_place (in_mod r d h) = let t : r.mod_id ∷ names_of r.source ≡ [] = ap (λ (s : Spot). s.names) h ∙ top in cc

      by_stands : Stands choice a old n can (spot_of row.to) → ⊥
      by_stands (at_row p w) = by_place p
      by_stands (at_aside r y d s h) = let t : codes "aside" ∷ decimal n ∷ root_word y.root ∷ y.names ≡ [] = ap (λ (s : Spot). s.names) h ∙ top in cc

  goes_aside : (row : SetRow) → Contains plan.sets row → (b : Place) → row.back ≡ Some b → (t : List ℕ) × (row.to.rel ≡ Some t) × (spot_of b ≡ aside_spot n (spot_of row.to))
  unfolding backs
  goes_aside row c b e =
      let t = named row c row.to.rel refl in
      let back = backs row b c e in
      (t.0, t.1, by_back back.back (set_back choice a old n can (spot_of row.to) back.move (set_tells choice a old.rows n (spot_of row.to) back.move back.set)))
    where
      by_back : (move_of row).back ≡ Some (spot_of b) → Back choice a old n can (spot_of row.to) (move_of row) → spot_of b ≡ aside_spot n (spot_of row.to)
      by_back h (aside r d s is k) = let t : Some (spot_of b) ≡ Some (aside_spot n (spot_of row.to)) = sym h ∙ is in cc
      by_back h (nothing is k) = let t : None ≡ Some (spot_of b) = sym is ∙ h in absurd (cc)

  -- the saves are those of the settlement
  pub saves-are : (from to : Spot) → (Contains (map ends_of plan.saves) (from, to) ↔ Saves choice a old.rows n from to)
  saves-are from to = (forth, back)
    where
      forth : Contains (map ends_of plan.saves) (from, to) → Saves choice a old.rows n from to
      forth c =
          let s = contains_map ends_of plan.saves (from, to) c in
          let f = contains_filter_map saved_by plan.sets s.0 (subst (λ l. Contains l s.0) saves s.1) in
          let h = saved_is f.0 f.0.back s.0 f.2 in
          let is = backs_saved choice a old n can (spot_of f.0.to) (spot_of h.0) (backs f.0 h.0 f.1 h.1) in
          let e : spot_of f.0.to ≡ from = ap spot_of (sym h.2) ∙ ap (λ (z : Spot × Spot). z.0) s.2 in
          let g : spot_of h.0 ≡ to = ap spot_of (sym h.3) ∙ ap (λ (z : Spot × Spot). z.1) s.2 in
          subst (λ y. Saves choice a old.rows n y to) e (subst (Saves choice a old.rows n (spot_of f.0.to)) g is)

      found : (v : Move) → v.back ≡ Some to → Contains (map spotted plan.sets) (from, v) → Contains (map ends_of plan.saves) (from, to)
      found v e c =
          let r = contains_map spotted plan.sets (from, v) c in
          by_back r.0 r.1 (ap (λ (z : Spot × Move). z.0) r.2) r.0.back refl (ap (λ (z : Spot × Move). z.1.back) r.2 ∙ e)
        where
          by_back : (row : SetRow) → Contains plan.sets row → spot_of row.to ≡ from → (o : Option Place) → row.back ≡ o → option_map spot_of row.back ≡ Some to → Contains (map ends_of plan.saves) (from, to)
          by_back row d here None is h = let t : None ≡ Some to = sym (ap (option_map spot_of) is) ∙ h in absurd (cc)
          by_back row d here (Some b) is h =
              let t : Some (spot_of b) ≡ Some to = sym (ap (option_map spot_of) is) ∙ h in
              let there : spot_of b ≡ to = cc in
              let listed : Contains plan.saves (row.to, b) = subst (λ l. Contains l (row.to, b)) (sym saves) (filter_map_contains saved_by plan.sets row (row.to, b) d (ap (option_map {U = Place × Place} (λ back. (row.to, back))) is)) in
              subst (Contains (map ends_of plan.saves)) (λ i. (here i, there i)) (map_contains ends_of plan.saves (row.to, b) listed)

      back : Saves choice a old.rows n from to → Contains (map ends_of plan.saves) (from, to)
      back h =
          let o = (origin choice a old n can h.row from h.listed h.saved).back in
          found o.move (o.back ∙ ap Some h.here) ((sets (from, o.move)).1 ((sets-are choice a old.rows n can.rows from o.move).1 o.set))

  pub saves_in_order : n < 4294967296 → AreRising (map (λ (row : SetRow). row.to) plan.sets) → AreRising (map (λ (s : Place × Place). s.1) plan.saves)
  saves_in_order small rise = subst (λ l. AreRising (map (λ (s : Place × Place). s.1) l)) (sym saves) (saves_rise n small plan.sets goes_aside rise)

-- a place has one set
pub sets_function : (choice : Choice) (a : Disk) (old : Manifest) (n : ℕ) → CanSettle choice a old n → IsFunction (settle_sets choice a old.rows n)
sets_function choice a old n can x v w c d =
    let t : Some v ≡ Some w = sym ((sets-are choice a old.rows n can.rows x v).0 c) ∙ (sets-are choice a old.rows n can.rows x w).0 d in cc

-- the lists of a plan, as the functions make them
pub record AreLists (choice : Choice) (a : Disk) (old : Manifest) (n : ℕ) (plan : Plan) (next : List (List ℕ)) : Type 0 where
  pub is_there : Bool
  pub there : SetsSomeAside choice a old.rows → is_there ≡ a.folders aside_folder
  pub restored : List Spot
  pub restored_are : restored ≡ filter_map task_restored (tasks_of choice a old.rows)
  pub missing : List Spot
  pub missing_are : (s : Spot) → (Contains missing s ↔ IsAboveOne restored s × (kind_of a s ≡ Absent))
  pub held : List (List ℕ)
  pub held_are : (p : List ℕ) → (Contains held p ↔ Contains (filter_map step_holding (steps_of choice a old.rows)) p)
  pub emptied : List (List ℕ)
  pub emptied_are : (x : Spot) → (Contains (map game_spot emptied) x ↔ Contains (filter_map step_emptied (steps_of choice a old.rows)) x)
  pub kept : List (List ℕ)
  pub off : List (List ℕ)
  pub sets : (v : Spot × Move) → (Contains (map spotted plan.sets) v ↔ Contains (filter_map (step_set n) (steps_of choice a old.rows)) v)
  pub sets_rise : AreRising (map (λ (row : SetRow). row.to) plan.sets)
  pub saves : plan.saves ≡ filter_map saved_by plan.sets
  pub clears : (x : Spot) → (Contains (map spot_of plan.clears) x ↔ Contains (filter_map (step_clear n) (steps_of choice a old.rows)) x)
  pub clears_rise : AreRising plan.clears
  pub made : (s : Spot) → (Contains (map spot_of plan.folders) s ↔ Contains missing s ⊎ IsAsideAbove is_there plan.saves s)
  pub made_rise : AreRising plan.folders
  pub parted : (p : Plan) → GoesByOwn a old.folders held emptied p → AreParted a old.folders held p old.folders kept off
  pub offs : map spot_of plan.folders_off ≡ map game_spot off
  pub falling : AreFalling off
  pub joined : (p : List ℕ) → (Contains next p ↔ Contains kept p ⊎ Contains (map spot_of plan.folders) (game_spot p))
  pub next_rise : paths.AreRising next

module _ (choice : Choice) (a : Disk) (old : Manifest) (n : ℕ) (small : n < 4294967296) (can : CanSettle choice a old n) (plan : Plan) (next : List (List ℕ)) (l : AreLists choice a old n plan next) where
  sets_here : (v : Spot × Move) → (Contains (map spotted plan.sets) v ↔ Contains (settle_sets choice a old.rows n) v)
  sets_here v = subst (λ k. Contains (map spotted plan.sets) v ↔ Contains k v) (sets_told a n choice old.rows) (l.sets v)

  clears_here : (x : Spot) → (Contains (map spot_of plan.clears) x ↔ Contains (settle_clears choice a old.rows n) x)
  clears_here x = subst (λ k. Contains (map spot_of plan.clears) x ↔ Contains k x) (clears_told a n choice old.rows) (l.clears x)

  saves_here : (from to : Spot) → (Contains (map ends_of plan.saves) (from, to) ↔ Saves choice a old.rows n from to)
  saves_here = saves-are choice a old n can plan sets_here l.saves

  saves_walked : (y : Spot × Spot) → (Contains (map ends_of plan.saves) y ↔ Contains (settle_saves choice a old.rows n) y)
  saves_walked y = (λ c. (walked-saves choice a old.rows n can.rows y.0 y.1).1 ((saves_here y.0 y.1).0 c), λ c. (saves_here y.0 y.1).1 ((walked-saves choice a old.rows n can.rows y.0 y.1).0 c))

  order : KeepsRule in_order plan
  order =
      all_append (λ (e : Listed). InOrder e.entry e.front) (listed folder 0 None plan.folders) _
      (rising_listed folder (λ p. p) (λ p front h. h) (λ p. refl) plan.folders (subst AreRising (sym (map_itself plan.folders)) l.made_rise))
      (all_append (λ (e : Listed). InOrder e.entry e.front) (listed save 0 None plan.saves) _
      (rising_listed save (λ s. s.1) (λ s front h. h) (λ s. refl) plan.saves (saves_in_order choice a old n can plan sets_here l.saves small l.sets_rise))
      (all_append (λ (e : Listed). InOrder e.entry e.front) (listed set 0 None plan.sets) _
      (rising_listed set (λ row. row.to) (λ row front h. h) (λ row. refl) plan.sets l.sets_rise)
      (all_append (λ (e : Listed). InOrder e.entry e.front) (listed clear 0 None plan.clears) _
      (rising_listed clear (λ p. p) (λ p front h. h) (λ p. refl) plan.clears (subst AreRising (sym (map_itself plan.clears)) l.clears_rise))
      (falling_listed plan.folders_off l.off l.offs l.falling))))

  laid : LaidOut (settle_moves choice a old.rows n) plan
  laid = laid_by_pass choice a old.rows n can.rows plan sets_here saves_walked clears_here order

  made_here : (s : Spot) → (Contains (map spot_of plan.folders) s ↔ IsMade a plan s)
  made_here s =
      let for = missing_for choice a old n can l.restored l.missing plan.saves l.is_there l.restored_are l.missing_are saves_here l.there s in (
        λ c. missing-made choice a old n can plan laid s (for.0 ((l.made s).0 c)),
        λ m. (l.made s).1 (for.1 (made-missing choice a old n can plan laid s m)),
      )

  -- the step of a row
  step_row : {Y : Type 0} (f : Step → Option Y) (y : Y) → Contains (filter_map f (steps_of choice a old.rows)) y → (r : Row) × Contains old.rows r × (f (told a (r, deed_of choice a r)) ≡ Some y)
  step_row f y c =
      let s = contains_filter_map f (steps_of choice a old.rows) y c in
      let r = contains_map (λ (r : Row). told a (r, deed_of choice a r)) old.rows s.0 s.1 in
      (r.0, r.1, ap f r.2 ∙ s.2)

  row_step : {Y : Type 0} (f : Step → Option Y) (r : Row) (y : Y) → Contains old.rows r → f (told a (r, deed_of choice a r)) ≡ Some y → Contains (filter_map f (steps_of choice a old.rows)) y
  row_step f r y c e = filter_map_contains f (steps_of choice a old.rows) (told a (r, deed_of choice a r)) y (map_contains (λ (r : Row). told a (r, deed_of choice a r)) old.rows r c) e

  held_is : (path : List ℕ) → (Contains l.held path ↔ HoldsAt choice a old.rows path)
  held_is path = (
    λ c. let r = step_row step_holding path ((l.held_are path).0 c) in record { row = r.0; listed = r.1; holds = r.2 },
    λ h. (l.held_are path).1 (row_step step_holding h.row path h.listed h.holds),
  )

  emptied_is : (x : Spot) → (Contains (map game_spot l.emptied) x ↔ EmptiedAt choice a old.rows x)
  emptied_is x = (
    λ c. let r = step_row step_emptied x ((l.emptied_are x).0 c) in record { row = r.0; listed = r.1; emptied = r.2 },
    λ h. (l.emptied_are x).1 (row_step step_emptied h.row x h.listed h.emptied),
  )

  joined_here : (p : List ℕ) → (Contains next p ↔ Contains l.kept p ⊎ IsMade a plan (game_spot p))
  joined_here p = (
    λ c. elim ((l.joined p).0 c) [ inl k ↦ inl k | inr m ↦ inr ((made_here (game_spot p)).0 m) ],
    λ h. (l.joined p).1 (elim h [ inl k ↦ inl k | inr m ↦ inr ((made_here (game_spot p)).1 m) ]),
  )

  by : GoesByOwn a old.folders l.held l.emptied plan
  by = goes_by_own choice a old n can plan laid l.held held_is l.emptied emptied_is

  pub planned : (manifest : Manifest) → plan.manifest ≡ Some manifest → manifest.rows ≡ next_rows choice a old.rows → manifest.folders ≡ next → SettlePlan choice a old n plan
  planned manifest is rows folders = record {
    moves = laid;
    folders = record {
      made = λ s. (λ h. (made_here s).0 ((has_is plan.folders s).0 h), λ m. (has_is plan.folders s).1 ((made_here s).1 m));
      off = offs_are a old.folders l.held l.emptied plan by l.kept l.off (l.parted plan by) l.offs;
    };
    manifest = manifest;
    is_manifest = is;
    rows = rows;
    own = subst (OwnLaidOut a old.folders plan) (sym folders) (own_laid_out choice a old n can plan laid l.held held_is l.emptied emptied_is l.kept l.off next (l.parted plan by) joined_here l.next_rise);
  }
