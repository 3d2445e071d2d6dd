-- A destination of a deployment where nothing stood gets a file, so no made folder goes.
use Rattle.deploy_plan.proofs.Sets.{SetCase, set_case, set_tells}
use Rattle.manifest_json.specs.declared.manifest.Manifest.{Manifest}
use Rattle.std.proofs.Common.{◌≡◌, List, sym, ap, ◌∙◌, inl, inr, subst}
use Rattle.std.specs.declared.option.Option.TheVariants.{None, Some}
use Rattle.rel_paths.specs.Names.{names_of, IsFreePath}
use Rattle.tree_fs.specs.Spot.{Spot}
use Rattle.tree_fs.specs.Places.{game_spot}
use Rattle.tree_fs.specs.Disk.{Disk, Value, none}
use Rattle.manifest_json.specs.declared.manifest.Row.{Row}
use Rattle.move_plan.specs.declared.plan.Plan.{Plan}
use Rattle.move_plan.specs.Places.{IsDestination}
use Rattle.backup_keep.specs.Places.{backup_spot}
use Rattle.desk_model.specs.Places.{in_game, IsUsers}
use Rattle.desk_model.specs.Desk.{file_or_none}
use Rattle.desk_model.specs.Deployed.{Win, winner_of, won_spot}
use Rattle.deploy_plan.specs.Cases.{Case, untouched, leaves, stays, turns, comes, covers, set_by, Covers, Frees, deploy_moves}
use Rattle.desk_model.specs.Outcome.{own_or, updated}
use Rattle.plan_model.specs.Moves.{Move, LaidOut}
use Rattle.plan_model.specs.Folders.{IsOwnFolder, GoesOff}
use Rattle.deploy_plan.specs.Plans.{CanDeploy}
use Rattle.plan_model.proofs.Values.{HasFile, its_file, file_some, file_true}
use Rattle.plan_model.proofs.Moved.{value_at, moved-set, set-moved, save-moved}
use Rattle.deploy_plan.proofs.Told.{Told, told_at, row_facts, win_facts, path_kept}
use Rattle.deploy_plan.proofs.Kept.{behind_value}
use Rattle.plan_model.proofs.GoesBy.{only_own}

module _ (a : Disk) (old : Manifest) (wins : List Win) (can : CanDeploy a old wins) (plan : Plan) (laid : LaidOut (deploy_moves a old.rows wins) plan) where
  abbrev now : Spot → Value
  now = updated plan a.now

  -- a destination where nothing stood gets a file
  pub gets : (x : Spot) → IsUsers x.root → IsDestination plan x → a.now x ≡ none → HasFile (now x)
  gets x users (inl set) free =
      let m = set-moved (deploy_moves a old.rows wins) plan laid a.now x set in by_set m.0 m.1 (set_tells a old.rows wins x m.0 m.1)
    where
      source : (v : Move) (w : Win) → (deploy_moves a old.rows wins).sets x ≡ Some v → v.from ≡ Some (won_spot w) → HasFile (a.now (won_spot w)) → ¬ Frees a old.rows wins x → HasFile (now x)
      source v w e from f kept =
          subst HasFile (sym (moved-set (deploy_moves a old.rows wins) plan laid a.now x v e kept ∙ ap (value_at a.now) from ∙ its_file (a.now (won_spot w)) f)) f

      stood : (r : Row) → in_game x.names ≡ x → HasFile (a.now (in_game x.names)) → HasFile (now x)
      stood r here f = absurd (file_some (a.now (in_game x.names)) f (ap a.now here ∙ free))

      won : (v : Move) (w : Win) → (deploy_moves a old.rows wins).sets x ≡ Some v → winner_of wins x.names ≡ Some w → in_game x.names ≡ x → v.from ≡ Some (won_spot w) → HasFile (now x)
      won v w e at here from =
          let f = win_facts a old wins can x.names w at in
          source v w e from f.staged (λ h. path_free w f.good f.here here h)
        where
          path_free : (w : Win) → IsFreePath w.path → names_of w.path ≡ x.names → in_game x.names ≡ x → Frees a old.rows wins x → ⊥
          path_free w good named here h = path_kept a old wins can w.path good (subst (Frees a old.rows wins) (sym (ap in_game named ∙ here)) h)

      by_case : (v : Move) (c : Case) → (deploy_moves a old.rows wins).sets x ≡ Some v → Told a old.rows wins x.names c → in_game x.names ≡ x → set_by a c ≡ Some v → HasFile (now x)
      by_case v untouched e h here s = absurd (cc)
      by_case v (leaves r) e h here s = stood r here (row_facts a old wins can x.names r h.0).deployed
      by_case v (stays r) e h here s = absurd (cc)
      by_case v (turns r w) e h here s = stood r here (row_facts a old wins can x.names r h.0).deployed
      by_case v (comes w) e h here s = let is : record { from = Some (won_spot w); back = None } ≡ v = cc in won v w e h.1 here (ap (λ (m : Move). m.from) (sym is))
      by_case v (covers w) e h here s = let is : record { from = Some (won_spot w); back = Some (backup_spot w.path) } ≡ v = cc in won v w e h.1 here (ap (λ (m : Move). m.from) (sym is))

      by_set : (v : Move) → (deploy_moves a old.rows wins).sets x ≡ Some v → SetCase a old.rows wins x v → HasFile (now x)
      by_set v e (set_case c at here s) = by_case v c e (told_at a old.rows wins x.names c at) here s
  gets x users (inr save) free =
      let m = save-moved (deploy_moves a old.rows wins) plan laid a.now x save in by_cover m.1
    where
      by_cover : {y : Spot} → Covers a old.rows wins y x → HasFile (now x)
      by_cover {y} h =
          let t = told_at a old.rows wins (names_of h.win.path) (covers h.win) h.case in
          let here = file_true (a.now (game_spot h.win.path)) t.2 in
          subst HasFile (sym (ap now (sym h.here) ∙ behind_value a old wins can plan laid h.win.path (covers h.win) h.case ∙ ap (λ v. own_or v (file_or_none (a.now (game_spot h.win.path)))) (ap a.now h.here ∙ free) ∙ its_file (a.now (game_spot h.win.path)) here)) here

  pub only_own_goes : (s : Spot) → GoesOff a old.folders plan s → IsOwnFolder a old.folders s
  only_own_goes s g = only_own a old.folders can.valid plan gets s g
