-- The steps of the walk, by the cases of their paths.
use Rattle.std.proofs.Common.{◌≡◌, ◌≢◌, ◌↔◌, ℕ, Bool, true, false, cond, List, [], ◌∷◌, map, filter_map, refl, sym, ap, ◌∙◌, subst}
use Rattle.std.specs.List.{Contains}
use Rattle.std.specs.declared.option.Option.TheVariants.{None, Some}
use Rattle.list_laws.proofs.Containing.{contains_map, map_contains, contains_filter_map, filter_map_contains}
use Rattle.rel_paths.specs.Names.{names_of}
use Rattle.tree_fs.specs.Spot.{Spot}
use Rattle.tree_fs.specs.Places.{game_spot}
use Rattle.tree_fs.specs.Disk.{Disk}
use Rattle.backup_keep.specs.Places.{backup_spot}
use Rattle.manifest_json.specs.declared.manifest.Row.{Row}
use Rattle.manifest_json.specs.Paths.{AreRising}
use Rattle.manifest_json.specs.Records.{paths_of}
use Rattle.desk_model.specs.Desk.{is_file}
use Rattle.desk_model.specs.Deployed.{Win, still_wins}
use Rattle.plan_model.specs.Rows.{has_original}
use Rattle.plan_model.specs.Lists.{at_place}
use Rattle.plan_lists.proofs.Gathered.{gathered_of}
use Rattle.deploy_plan.specs.Cases.{Case, untouched, leaves, stays, turns, case_by, case_of, set_by}
use Rattle.deploy_plan.specs.Wins.{won_paths}
use Rattle.deploy_plan.specs.Walk.{Step, row_alone, both, win_alone, step_path, step_case, step_set, step_save, step_clear, save_by, clear_by, merged, walked_sets, walked_saves, walked_clears}
use Rattle.deploy_plan.specs.Told.{staying, turning, told, told_win, told_path, told_set, told_save, told_clear, told_emptied}
use Rattle.deploy_plan.proofs.Walks.{step_cases, case_steps}

module _ (a : Disk) where
  set_told : (s : Step) → told_set (told a s) ≡ step_set a s
  set_told (row_alone r) = refl
  set_told (both r w) = by_test (still_wins r w)
    where
      by_test : (b : Bool) → told_set (cond b (staying r) (turning r w)) ≡ at_place (game_spot r.path) (set_by a (cond b (stays r) (turns r w)))
      by_test true = refl
      by_test false = refl
  set_told (win_alone w) = by_test (is_file (a.now (game_spot w.path)))
    where
      by_test : (b : Bool) → told_set (told_win w b) ≡ at_place (game_spot w.path) (set_by a (case_by None (Some w) b))
      by_test true = refl
      by_test false = refl

  save_told : (s : Step) → told_save (told a s) ≡ step_save a s
  save_told (row_alone r) = refl
  save_told (both r w) = by_test (still_wins r w)
    where
      by_test : (b : Bool) → told_save (cond b (staying r) (turning r w)) ≡ save_by (cond b (stays r) (turns r w))
      by_test true = refl
      by_test false = refl
  save_told (win_alone w) = by_test (is_file (a.now (game_spot w.path)))
    where
      by_test : (b : Bool) → told_save (told_win w b) ≡ save_by (case_by None (Some w) b)
      by_test true = refl
      by_test false = refl

  clear_told : (s : Step) → told_clear (told a s) ≡ step_clear a s
  clear_told (row_alone r) = refl
  clear_told (both r w) = by_test (still_wins r w)
    where
      by_test : (b : Bool) → told_clear (cond b (staying r) (turning r w)) ≡ clear_by a (cond b (stays r) (turns r w))
      by_test true = refl
      by_test false = refl
  clear_told (win_alone w) = by_test (is_file (a.now (game_spot w.path)))
    where
      by_test : (b : Bool) → told_clear (told_win w b) ≡ clear_by a (case_by None (Some w) b)
      by_test true = refl
      by_test false = refl

  path_told : (s : Step) → told_path (told a s) ≡ step_path s
  path_told (row_alone r) = refl
  path_told (both r w) = by_test (still_wins r w)
    where
      by_test : (b : Bool) → told_path (cond b (staying r) (turning r w)) ≡ r.path
      by_test true = refl
      by_test false = refl
  path_told (win_alone w) = by_test (is_file (a.now (game_spot w.path)))
    where
      by_test : (b : Bool) → told_path (told_win w b) ≡ w.path
      by_test true = refl
      by_test false = refl

  -- the lists of the walk
  pub sets_told : (rows : List Row) (wins : List Win) → filter_map told_set (map (told a) (merged rows wins)) ≡ walked_sets a rows wins
  sets_told rows wins = gathered_of told_set (told a) (step_set a) set_told (merged rows wins)

  pub saves_told : (rows : List Row) (wins : List Win) → filter_map told_save (map (told a) (merged rows wins)) ≡ walked_saves a rows wins
  saves_told rows wins = gathered_of told_save (told a) (step_save a) save_told (merged rows wins)

  pub clears_told : (rows : List Row) (wins : List Win) → filter_map told_clear (map (told a) (merged rows wins)) ≡ walked_clears a rows wins
  clears_told rows wins = gathered_of told_clear (told a) (step_clear a) clear_told (merged rows wins)

  map_of : {X Y Z : Type 0} (f : Y → Z) (g : X → Y) (h : X → Z) → ((x : X) → f (g x) ≡ h x) → (xs : List X) → map f (map g xs) ≡ map h xs
  map_of f g h same [] = refl
  map_of f g h same (x ∷ xs) = λ i. same x i ∷ map_of f g h same xs i

  pub paths_told : (steps : List Step) → map told_path (map (told a) steps) ≡ map step_path steps
  paths_told steps = map_of told_path (told a) step_path path_told steps

module _ (a : Disk) (rows : List Row) (wins : List Win) (old : AreRising (paths_of rows)) (won : AreRising (won_paths wins)) where
  abbrev steps : List Step
  steps = merged rows wins

  leaves_alone : (s : Step) (r : Row) → step_case a s ≡ leaves r → s ≡ row_alone r
  leaves_alone (row_alone q) r e = let same : q ≡ r = cc in ap row_alone same
  leaves_alone (both q w) r e = by_test (still_wins q w) e
    where
      by_test : (b : Bool) → cond b (stays q) (turns q w) ≡ leaves r → both q w ≡ row_alone r
      by_test true e = absurd (cc)
      by_test false e = absurd (cc)
  leaves_alone (win_alone w) r e = by_test (is_file (a.now (game_spot w.path))) e
    where
      by_test : (b : Bool) → case_by None (Some w) b ≡ leaves r → win_alone w ≡ row_alone r
      by_test true e = absurd (cc)
      by_test false e = absurd (cc)

  new_alone : (s : Step) (w : Win) (b : Bool) → step_case a s ≡ case_by None (Some w) b → s ≡ win_alone w
  new_alone (row_alone q) w true e = absurd (cc)
  new_alone (row_alone q) w false e = absurd (cc)
  new_alone (both q v) w b e = by_test (still_wins q v) b e
    where
      by_test : (t b : Bool) → cond t (stays q) (turns q v) ≡ case_by None (Some w) b → both q v ≡ win_alone w
      by_test true true e = absurd (cc)
      by_test true false e = absurd (cc)
      by_test false true e = absurd (cc)
      by_test false false e = absurd (cc)
  new_alone (win_alone v) w b e = by_test (is_file (a.now (game_spot v.path))) b e
    where
      by_test : (t b : Bool) → case_by None (Some v) t ≡ case_by None (Some w) b → win_alone v ≡ win_alone w
      by_test true true e = let same : v ≡ w = cc in ap win_alone same
      by_test true false e = absurd (cc)
      by_test false true e = absurd (cc)
      by_test false false e = let same : v ≡ w = cc in ap win_alone same

  step_of : (p : List (List ℕ)) (c : Case) → case_of a rows wins p ≡ c → c ≢ untouched → (s : Step) × Contains steps s × (names_of (step_path s) ≡ p) × (step_case a s ≡ c)
  step_of p c is ne =
      let s = case_steps a rows wins old won p (λ un. ne (sym is ∙ un)) in
      (s.0, s.1, s.2, sym (step_cases a rows wins old won s.0 s.1) ∙ ap (case_of a rows wins) s.2 ∙ is)

  pub leaving_step : (p : List (List ℕ)) (r : Row) → case_of a rows wins p ≡ leaves r → Contains steps (row_alone r)
  leaving_step p r is = let s = step_of p (leaves r) is (λ e. let no : leaves r ≡ untouched = e in absurd (cc)) in subst (Contains steps) (leaves_alone s.0 r s.3) s.1

  pub new_step : (p : List (List ℕ)) (w : Win) (b : Bool) → case_of a rows wins p ≡ case_by None (Some w) b → Contains steps (win_alone w)
  new_step p w b is = let s = step_of p (case_by None (Some w) b) is (touched b) in subst (Contains steps) (new_alone s.0 w b s.3) s.1
    where
      touched : (b : Bool) → case_by None (Some w) b ≢ untouched
      touched true e = absurd (cc)
      touched false e = absurd (cc)

  pub step_leaves : (r : Row) → Contains steps (row_alone r) → case_of a rows wins (names_of r.path) ≡ leaves r
  step_leaves r c = step_cases a rows wins old won (row_alone r) c

  pub step_new : (w : Win) → Contains steps (win_alone w) → case_of a rows wins (names_of w.path) ≡ case_by None (Some w) (is_file (a.now (game_spot w.path)))
  step_new w c = step_cases a rows wins old won (win_alone w) c

  -- Where there is no file any more in the end

  pub record EmptiedAt (x : Spot) : Type 0 where
    pub row : Row
    pub case : case_of a rows wins (names_of row.path) ≡ leaves row
    pub here : x ≡ cond (has_original a row) (backup_spot row.path) (game_spot row.path)

  emptied_by : (s : Step) (x : Spot) → Contains steps s → told_emptied (told a s) ≡ Some x → EmptiedAt x
  emptied_by (row_alone r) x c e = record { row = r; case = step_leaves r c; here = (let is : Some (cond (has_original a r) (backup_spot r.path) (game_spot r.path)) ≡ Some x = e in cc) }
  emptied_by (both r w) x c e = by_test (still_wins r w) e
    where
      by_test : (b : Bool) → told_emptied (cond b (staying r) (turning r w)) ≡ Some x → EmptiedAt x
      by_test true e = absurd (cc)
      by_test false e = absurd (cc)
  emptied_by (win_alone w) x c e = by_test (is_file (a.now (game_spot w.path))) e
    where
      by_test : (b : Bool) → told_emptied (told_win w b) ≡ Some x → EmptiedAt x
      by_test true e = absurd (cc)
      by_test false e = absurd (cc)

  pub emptied_are : (x : Spot) → Contains (filter_map told_emptied (map (told a) steps)) x ↔ EmptiedAt x
  emptied_are x = (
    λ c.
        let t = contains_filter_map told_emptied (map (told a) steps) x c in
        let s = contains_map (told a) steps t.0 t.1 in
        emptied_by s.0 x s.1 (ap told_emptied s.2 ∙ t.2),
    λ h. filter_map_contains told_emptied (map (told a) steps) (told a (row_alone h.row)) x
        (map_contains (told a) steps (row_alone h.row) (leaving_step (names_of h.row.path) h.row h.case)) (ap Some (sym h.here)),
  )
