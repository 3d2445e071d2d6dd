-- What the walk finds in the way, as the first reason of a refusal.
use Rattle.std.proofs.Common.{◌≡◌, ◌⊎◌, ℕ, Bool, true, false, List, [], ◌∷◌, ◌++◌, refl, sym, ap, ◌∙◌, subst, inl, inr}
use Rattle.std.specs.List.{AllByRecursion, Contains}
use Rattle.std.specs.Ordering.{nat_cmp}
use Rattle.std.specs.Cmp.Lexicographic.{slice_cmp}
use Rattle.std.specs.declared.cmp.Ordering.TheVariants.{Less}
use Rattle.std.specs.declared.option.Option.{Option}
use Rattle.std.specs.declared.option.Option.TheVariants.{None, Some}
use Rattle.list_laws.proofs.Alls.{all_item}
use Rattle.list_laws.proofs.Containing.{contains_map, map_contains, at_seam, contains_seam}
use Rattle.list_laws.proofs.Orders.{text_not_itself, text_not_both}
use Rattle.rel_paths.specs.Names.{names_of}
use Rattle.rel_paths.proofs.NamesOf.{same_text}
use Rattle.tree_fs.specs.Spot.{spot_of}
use Rattle.tree_fs.specs.Places.{game_spot}
use Rattle.tree_fs.specs.Disk.{Disk}
use Rattle.backup_keep.specs.Places.{backup_spot}
use Rattle.manifest_json.specs.declared.manifest.Row.{Row}
use Rattle.manifest_json.specs.Paths.{AreRising}
use Rattle.manifest_json.specs.Records.{paths_of}
use Rattle.manifest_json.specs.Sound.{AreRows}
use Rattle.desk_model.specs.Records.{row_at}
use Rattle.desk_model.specs.Desk.{is_file}
use Rattle.desk_model.specs.Deployed.{Win, winner_of}
use Rattle.plan_model.proofs.Firsts.{row-some, win-some, row-here, win-here}
use Rattle.plan_model.proofs.InOrder.{RiseBy, rise_by}
use Rattle.plan_model.proofs.Rows.{flat_apart}
use Rattle.deploy_plan.specs.declared.error.PlanError.{PlanError}
use Rattle.deploy_plan.specs.declared.error.PlanError.TheVariants.{ChangesFound, Turned, Blocked, BackupTaken, Failed, Memory}
use Rattle.deploy_plan.specs.Cases.{leaves, comes, covers, case_by, case_of}
use Rattle.deploy_plan.specs.Wins.{won_paths}
use Rattle.deploy_plan.specs.Walk.{Step, row_alone, both, win_alone, step_path, merged}
use Rattle.deploy_plan.specs.Refusals.{IsTurned, NoneTurned, IsFirstTurned, Obstacle, blocked, backup_taken, IsObstacleBy, IsObstacle, IsFirstObstacle, IsNewWin, WalkPasses, HasNoChanges, IsPlanRefusal}
use Rattle.deploy_plan.specs.Steps.{Refused, IsStepObstacle, IsFreeStep, IsFirstInTheWay, IsNotTurned, TurnsAt, IsFirstToTurn, RefusedByChanges, RefusedByTurned}
use Rattle.deploy_plan.proofs.OneFirst.{open_not_blocking, open_not_taken}
use Rattle.deploy_plan.proofs.Told.{told_at, case_is}
use Rattle.deploy_plan.proofs.Walks.{steps_rise}
use Rattle.deploy_plan.proofs.StepFacts.{leaving_step, new_step, step_leaves, step_new}

-- what stands behind an item of later paths
behind : (front : List Step) (step : Step) (back : List Step) → RiseBy step_path (front ++ step ∷ back) → (t : Step) → Contains back t → slice_cmp nat_cmp (step_path step) (step_path t) ≡ Less
behind [] step back rise t c = all_item (λ y. slice_cmp nat_cmp (step_path step) (step_path y) ≡ Less) back t rise.0 c
behind (x ∷ front) step back rise t c = behind front step back rise.1 t c

clash : (a : Disk) (s : Step) → IsFreeStep a s → (o : Obstacle) → IsStepObstacle a s o → ⊥
clash a (row_alone r) free (blocked x) h = open_not_blocking a (backup_spot r.path) (free h.0) h.1
clash a (row_alone r) free (backup_taken q) h = h
clash a (both r w) free o h = h
clash a (win_alone w) free (blocked x) (inl h) = open_not_taken a x (free.0 x h.above) h.taken
clash a (win_alone w) free (blocked x) (inr h) = open_not_blocking a (game_spot w.path) free.1 h.1
clash a (win_alone w) free (backup_taken q) h = h.2 (free.2 h.1)

module _ (a : Disk) (rows : List Row) (wins : List Win) (kept : AreRows rows) (won : AreRising (won_paths wins)) where
  abbrev steps : List Step
  steps = merged rows wins

  -- a step that comes before another stands in front of it
  earlier : (front : List Step) (step : Step) (back : List Step) → steps ≡ front ++ step ∷ back → (t : Step) → Contains steps t → slice_cmp nat_cmp (step_path t) (step_path step) ≡ Less → Contains front t
  earlier front step back is t c less =
      let rise = subst (RiseBy step_path) is (rise_by step_path steps (steps_rise a rows wins kept.rise won)) in
      elim (at_seam front step back t (subst (λ l. Contains l t) is c)) [
        | inl there ↦ there
        | inr (inl same) ↦ absurd (text_not_itself (step_path step) (subst (λ s. slice_cmp nat_cmp (step_path s) (step_path step) ≡ Less) same less))
        | inr (inr later) ↦ absurd (text_not_both (step_path t) (step_path step) less (behind front step back rise t later))
      ]

  among : (front : List Step) (step : Step) (back : List Step) → steps ≡ front ++ step ∷ back → Contains steps step
  among front step back is = subst (λ l. Contains l step) (sym is) (contains_seam front step back)

  alone_at : (r : Row) → Contains steps (row_alone r) → (row_at rows (names_of r.path) ≡ Some r) × (winner_of wins (names_of r.path) ≡ None)
  alone_at r c = let t = told_at a rows wins (names_of r.path) (leaves r) (step_leaves a rows wins kept.rise won r c) in (t.0, t.1)

  new_at : (w : Win) → Contains steps (win_alone w) → (row_at rows (names_of w.path) ≡ None) × (winner_of wins (names_of w.path) ≡ Some w)
  new_at w c = by_test (is_file (a.now (game_spot w.path))) (step_new a rows wins kept.rise won w c)
    where
      by_test : (b : Bool) → case_of a rows wins (names_of w.path) ≡ case_by None (Some w) b → (row_at rows (names_of w.path) ≡ None) × (winner_of wins (names_of w.path) ≡ Some w)
      by_test true e = let t = told_at a rows wins (names_of w.path) (covers w) e in (t.0, t.1)
      by_test false e = let t = told_at a rows wins (names_of w.path) (comes w) e in (t.0, t.1)

  won_in : (w : Win) → Contains steps (win_alone w) → Contains wins w
  won_in w c = (win-some wins (names_of w.path) w (new_at w c).1).0

  pub new_in : (w : Win) → IsNewWin rows wins w → Contains steps (win_alone w)
  new_in w new =
      new_step a rows wins kept.rise won (names_of w.path) w (is_file (a.now (game_spot w.path)))
      (case_is a rows wins (names_of w.path) None (Some w) (is_file (a.now (game_spot w.path))) new.1 (win-here wins w won new.0) refl)

  alone_in : (p : List (List ℕ)) (r : Row) → row_at rows p ≡ Some r → winner_of wins p ≡ None → Contains steps (row_alone r)
  alone_in p r e f = leaving_step a rows wins kept.rise won p r (case_is a rows wins p (Some r) None _ e f refl)

  -- What is in the way

  there_at : (s : Step) → Contains steps s → (o : Obstacle) → IsStepObstacle a s o → IsObstacle a rows wins (step_path s) o
  there_at (row_alone r) c o h = let t = alone_at r c in subst (λ w. IsObstacleBy a (row_at rows (names_of r.path)) w o) (sym t.1) (subst (λ q. IsObstacleBy a q None o) (sym t.0) h)
  there_at (both r w) c o h = absurd h
  there_at (win_alone w) c o h = let t = new_at w c in subst (λ v. IsObstacleBy a (row_at rows (names_of w.path)) v o) (sym t.1) (subst (λ q. IsObstacleBy a q (Some w) o) (sym t.0) h)

  step_there : (path : List ℕ) (o : Obstacle) → IsObstacle a rows wins path o → (s : Step) × Contains steps s × (names_of (step_path s) ≡ names_of path) × IsStepObstacle a s o
  step_there path o h = by (row_at rows (names_of path)) (winner_of wins (names_of path)) refl refl h
    where
      by : (r : Option Row) (w : Option Win) → row_at rows (names_of path) ≡ r → winner_of wins (names_of path) ≡ w → IsObstacleBy a r w o → (s : Step) × Contains steps s × (names_of (step_path s) ≡ names_of path) × IsStepObstacle a s o
      by (Some r) None e f k = (row_alone r, alone_in (names_of path) r e f, (row-some rows (names_of path) r e).1, k)
      by None (Some w) e f k =
          (win_alone w, new_step a rows wins kept.rise won (names_of path) w _ (case_is a rows wins (names_of path) None (Some w) _ e f refl), (win-some wins (names_of path) w f).1, k)
      by (Some r) (Some w) e f k = absurd k
      by None None e f k = absurd k

  pub first_obstacle : (o : Obstacle) → IsFirstInTheWay a steps o → IsFirstObstacle a rows wins o
  first_obstacle o f = record {
    path = step_path f.step;
    there = there_at f.step (among f.front f.step f.back f.split) o f.there;
    least = λ other another h less.
        let s = step_there other another h in
        let path : step_path s.0 ≡ other = same_text (step_path s.0) other s.2 in
        let c = earlier f.front f.step f.back f.split s.0 s.1 (subst (λ q. slice_cmp nat_cmp q (step_path f.step) ≡ Less) (sym path) less) in
        clash a s.0 (all_item (IsFreeStep a) f.front s.0 f.free c) another s.3;
  }

  module _ (free : AllByRecursion (IsFreeStep a) steps) where
    new_free : (w : Win) → IsNewWin rows wins w → IsFreeStep a (win_alone w)
    new_free w new = all_item (IsFreeStep a) steps (win_alone w) free (new_in w new)

    pub walk_passes : WalkPasses a rows wins
    walk_passes = record {
      behind = λ r c lost shadowed. all_item (IsFreeStep a) steps (row_alone r) free (alone_in (names_of r.path) r (row-here rows r kept.rise c) lost) shadowed;
      parents = λ w new. (new_free w new).0;
      place = λ w new. (new_free w new).1;
      free = λ w new is. (new_free w new).2 is;
    }

  -- Turned paths

  own_not : (r : Row) → Contains rows r → ¬ IsTurned rows r.path
  own_not r c t = elim t.turned [
    | inl e ↦ flat_apart (paths_of rows) kept.rise kept.flat t.row.path r.path (map_contains (λ (x : Row). x.path) rows t.row t.listed) (map_contains (λ (x : Row). x.path) rows r c) e
    | inr e ↦ flat_apart (paths_of rows) kept.rise kept.flat r.path t.row.path (map_contains (λ (x : Row). x.path) rows r c) (map_contains (λ (x : Row). x.path) rows t.row t.listed) e
  ]

  win_in : (w : Win) → Contains wins w → Contains steps (win_alone w) ⊎ (¬ IsTurned rows w.path)
  win_in w c = by_row (row_at rows (names_of w.path)) refl
    where
      by_row : (o : Option Row) → row_at rows (names_of w.path) ≡ o → Contains steps (win_alone w) ⊎ (¬ IsTurned rows w.path)
      by_row None e = inl (new_in w (c, e))
      by_row (Some r) e = let s = row-some rows (names_of w.path) r e in inr (subst (λ p. ¬ IsTurned rows p) (same_text r.path w.path s.1) (own_not r s.0))

  pub none_turned : AllByRecursion (IsNotTurned rows) steps → NoneTurned rows wins
  none_turned h path c t =
      let w = contains_map (λ (v : Win). v.path) wins path c in
      let turned : IsTurned rows w.0.path = subst (IsTurned rows) (sym w.2) t in
      elim (win_in w.0 w.1) [ inl s ↦ all_item (IsNotTurned rows) steps (win_alone w.0) h s turned | inr never ↦ never turned ]

  pub first_turned : (path : List ℕ) → IsFirstToTurn rows steps path → IsFirstTurned rows wins path
  first_turned path f = by_step f.step refl f.turns
    where
      by_step : (s : Step) → f.step ≡ s → TurnsAt rows s path → IsFirstTurned rows wins path
      by_step (row_alone r) e t = absurd t
      by_step (both r w) e t = absurd t
      by_step (win_alone w) e t = record {
        won = subst (Contains (won_paths wins)) (sym t.0) (map_contains (λ (v : Win). v.path) wins w (won_in w (subst (Contains steps) e (among f.front f.step f.back f.split))));
        turned = subst (IsTurned rows) (sym t.0) t.1;
        least = λ other c u less.
            let v = contains_map (λ (v : Win). v.path) wins other c in
            let turned : IsTurned rows v.0.path = subst (IsTurned rows) (sym v.2) u in
            let at : slice_cmp nat_cmp v.0.path (step_path f.step) ≡ Less = (λ i. slice_cmp nat_cmp (v.2 i) ((ap step_path e ∙ sym t.0) i)) ∙ less in
            elim (win_in v.0 v.1) [
              | inl s ↦ all_item (IsNotTurned rows) f.front (win_alone v.0) f.before (earlier f.front f.step f.back f.split (win_alone v.0) s at) turned
              | inr never ↦ never turned
            ];
      }

  -- The first reason

  pub by_changes : (e : PlanError) → RefusedByChanges a rows e → IsPlanRefusal a rows wins e
  by_changes (ChangesFound first count) h = h
  by_changes (Blocked place) h = inl h
  by_changes (Turned path) h = absurd h
  by_changes (BackupTaken path) h = absurd h
  by_changes Failed h = tt
  by_changes Memory h = tt

  module _ (clean : HasNoChanges a rows) where
    pub by_turned : (e : PlanError) → RefusedByTurned rows steps e → IsPlanRefusal a rows wins e
    by_turned (Turned path) h = (clean, first_turned path h)
    by_turned Memory h = tt
    by_turned (ChangesFound first count) h = absurd h
    by_turned (Blocked place) h = absurd h
    by_turned (BackupTaken path) h = absurd h
    by_turned Failed h = absurd h

    pub by_walk : NoneTurned rows wins → (e : PlanError) → Refused (IsFirstInTheWay a steps) e → IsPlanRefusal a rows wins e
    by_walk none (Blocked place) h = inr (clean, none, first_obstacle (blocked (spot_of place)) h)
    by_walk none (BackupTaken path) h = (clean, none, first_obstacle (backup_taken path) h)
    by_walk none (ChangesFound first count) h = absurd h
    by_walk none (Turned path) h = absurd h
    by_walk none Failed h = tt
    by_walk none Memory h = tt
