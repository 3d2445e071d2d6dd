-- A deployment puts the staged file of its winner at each winning path, and leaves stage and keep alone.
use Rattle.manifest_json.specs.declared.manifest.Manifest.{Manifest}
use Rattle.std.proofs.Common.{◌≡◌, List, [], ◌∷◌, refl, sym, ap, ◌∙◌}
use Rattle.std.specs.declared.option.Option.{Option}
use Rattle.std.specs.declared.option.Option.TheVariants.{None, Some}
use Rattle.std.specs.Str.{bytes_eq}
use Rattle.std.proofs.lemmas.Bool.{and_parts}
use Rattle.std.proofs.lemmas.Slice.Eq.{bytes_eq-Decides}
use Rattle.rel_paths.specs.Names.{names_of}
use Rattle.tree_fs.specs.declared.place.Root.TheVariants.{Stage, Game, Keep}
use Rattle.tree_fs.specs.Spot.{Spot}
use Rattle.tree_fs.specs.Places.{game_spot, staged_spot}
use Rattle.tree_fs.specs.Disk.{Disk, Value}
use Rattle.manifest_json.specs.declared.manifest.Row.{Row}
use Rattle.move_plan.specs.declared.plan.Plan.{Plan}
use Rattle.desk_model.specs.Places.{Names, in_game, in_stage, in_aside}
use Rattle.desk_model.specs.Desk.{without_manifest, found, found_by, aside_of, file_or_none}
use Rattle.desk_model.specs.Records.{row_at}
use Rattle.desk_model.specs.Deployed.{Win, winner_of, won_file, won_spot}
use Rattle.desk_model.specs.Outcome.{updated}
use Rattle.desk_model.proofs.Agreeing.{without-agree}
use Rattle.plan_model.specs.Moves.{LaidOut}
use Rattle.deploy_plan.specs.Cases.{Case, untouched, leaves, stays, turns, comes, covers, case_of, set_by, deploy_moves}
use Rattle.deploy_plan.specs.Plans.{CanDeploy}
use Rattle.plan_model.proofs.Values.{its_file}
use Rattle.plan_model.proofs.Moved.{moved-else}
use Rattle.deploy_plan.proofs.Told.{Told, told_at, next_by, next_is, new_rows, row_facts, win_facts}
use Rattle.deploy_plan.proofs.Kept.{here_by, here_value, seen_here}

module _ (a : Disk) (old : Manifest) (wins : List Win) (can : CanDeploy a old wins) (plan : Plan) (laid : LaidOut (deploy_moves a old.rows wins) plan) where
  abbrev now : Spot → Value
  now = updated plan a.now

  -- what a winning path holds
  won_here : (t : List _) (c : Case) (w : Win) → Told a old.rows wins (names_of t) c → winner_of wins (names_of t) ≡ Some w → here_by a old wins can plan laid (set_by a c) (a.now (game_spot t)) ≡ a.now (won_spot w)
  won_here t untouched w h won = let e : None ≡ Some w = sym h.1 ∙ won in absurd (cc)
  won_here t (leaves r) w h won = let e : None ≡ Some w = sym h.1 ∙ won in absurd (cc)
  won_here t (stays r) w h won =
      let f = row_facts a old wins can (names_of t) r h.0 in
      let e : Some h.1.0 ≡ Some w = sym h.1.1 ∙ won in
      let same : h.1.0 ≡ w = cc in
      let parts = and_parts (bytes_eq r.mod_id h.1.0.mod_id) (bytes_eq r.source h.1.0.source) h.1.2 in
      let id = (bytes_eq-Decides r.mod_id h.1.0.mod_id).0 parts.0 ∙ ap (λ (v : Win). v.mod_id) same in
      let source = (bytes_eq-Decides r.source h.1.0.source).0 parts.1 ∙ ap (λ (v : Win). v.source) same in
      f.one_file ∙ (λ i. a.now (staged_spot (id i) (source i)))
  won_here t (turns r v) w h won =
      let e : Some v ≡ Some w = sym h.1 ∙ won in let same : v ≡ w = cc in
      its_file (a.now (won_spot v)) (win_facts a old wins can (names_of t) v h.1).staged ∙ ap (λ x. a.now (won_spot x)) same
  won_here t (comes v) w h won =
      let e : Some v ≡ Some w = sym h.1 ∙ won in let same : v ≡ w = cc in
      its_file (a.now (won_spot v)) (win_facts a old wins can (names_of t) v h.1).staged ∙ ap (λ x. a.now (won_spot x)) same
  won_here t (covers v) w h won =
      let e : Some v ≡ Some w = sym h.1 ∙ won in let same : v ≡ w = cc in
      its_file (a.now (won_spot v)) (win_facts a old wins can (names_of t) v h.1).staged ∙ ap (λ x. a.now (won_spot x)) same

  pub won_value : (w : Win) → winner_of wins (names_of w.path) ≡ Some w → now (game_spot w.path) ≡ a.now (won_spot w)
  won_value w won =
      let f = win_facts a old wins can (names_of w.path) w won in
      here_value a old wins can plan laid w.path f.good ∙ won_here w.path (case_of a old.rows wins (names_of w.path)) w (told_at a old.rows wins (names_of w.path) _ refl) won

  new_row : (p : Names) (c : Case) (w : Win) → Told a old.rows wins p c → winner_of wins p ≡ Some w → (r : Row) × (next_by a old.rows wins c ≡ Some r)
  new_row p untouched w h won = let e : None ≡ Some w = sym h.1 ∙ won in absurd (cc)
  new_row p (leaves r) w h won = let e : None ≡ Some w = sym h.1 ∙ won in absurd (cc)
  new_row p (stays r) w h won = (r, refl)
  new_row p (turns r v) w h won = (_, refl)
  new_row p (comes v) w h won = (_, refl)
  new_row p (covers v) w h won = (_, refl)

  lost_row : (p : Names) (c : Case) → Told a old.rows wins p c → winner_of wins p ≡ None → next_by a old.rows wins c ≡ None
  lost_row p untouched h won = refl
  lost_row p (leaves r) h won = refl
  lost_row p (stays r) h won = let e : None ≡ Some h.1.0 = sym won ∙ h.1.1 in absurd (cc)
  lost_row p (turns r v) h won = let e : None ≡ Some v = sym won ∙ h.1 in absurd (cc)
  lost_row p (comes v) h won = let e : None ≡ Some v = sym won ∙ h.1 in absurd (cc)
  lost_row p (covers v) h won = let e : None ≡ Some v = sym won ∙ h.1 in absurd (cc)

  by_win : (p : Names) (v : Option Win) → winner_of wins p ≡ v → found_by (row_at (new_rows a old.rows wins) p) (without_manifest now (in_game p)) ≡ won_file a v
  by_win p None won =
      let h = told_at a old.rows wins p (case_of a old.rows wins p) refl in
      ap (λ o. found_by o (without_manifest now (in_game p))) (next_is a old.rows wins p (case_of a old.rows wins p) h ∙ lost_row p (case_of a old.rows wins p) h won)
  by_win p (Some w) won =
      let h = told_at a old.rows wins p (case_of a old.rows wins p) refl in
      let n = new_row p (case_of a old.rows wins p) w h won in
      let f = win_facts a old wins can p w won in
      ap (λ o. found_by o (without_manifest now (in_game p))) (next_is a old.rows wins p (case_of a old.rows wins p) h ∙ n.1)
      ∙ ap (λ q. file_or_none (without_manifest now (in_game q))) (sym f.here)
      ∙ ap file_or_none (seen_here a old wins can plan laid w.path f.good now ∙ won_value w (ap (winner_of wins) f.here ∙ won))
      ∙ its_file (a.now (won_spot w)) f.staged

  pub found_same : (p : Names) → found (new_rows a old.rows wins) (without_manifest now) p ≡ won_file a (winner_of wins p)
  unfolding found
  found_same p = by_win p (winner_of wins p) refl

  -- stage and keep are as they were
  pub stage_same : (p : Names) → now (in_stage p) ≡ a.now (in_stage p)
  stage_same p = moved-else (deploy_moves a old.rows wins) plan laid a.now (in_stage p) refl
      (λ h. let e : Game ≡ Stage = ap (λ (s : Spot). s.root) h.here in cc) (λ y h. let e : Game ≡ Stage = ap (λ (s : Spot). s.root) h.here in cc)

  pub keep_same : (p : Names) → now (record { root = Keep; names = p }) ≡ a.now (record { root = Keep; names = p })
  keep_same p = moved-else (deploy_moves a old.rows wins) plan laid a.now (record { root = Keep; names = p }) refl
      (λ h. let e : Game ≡ Keep = ap (λ (s : Spot). s.root) h.here in cc) (λ y h. let e : Game ≡ Keep = ap (λ (s : Spot). s.root) h.here in cc)

  pub staged_seen : (p : Names) → without_manifest now (in_stage p) ≡ without_manifest a.now (in_stage p)
  staged_seen p = without-agree now a.now (in_stage p) (λ ne. stage_same p)

  pub aside_seen : (p : Names) → aside_of (without_manifest now) p ≡ aside_of (without_manifest a.now) p
  aside_seen [] = refl
  aside_seen (n ∷ ns) = without-agree now a.now (in_aside (n ∷ ns)) (λ ne. keep_same _)
