-- A plan of a deployment makes the folders that are missing above new winners.
use Rattle.std.proofs.Common.{◌≡◌, true, false, List, refl, sym, ap, ◌∙◌, inl, inr, subst, Bool}
use Rattle.std.specs.declared.option.Option.TheVariants.{None, Some}
use Rattle.rel_paths.specs.Names.{names_of}
use Rattle.tree_fs.specs.Spot.{Spot, IsBelow}
use Rattle.tree_fs.specs.Places.{game_spot}
use Rattle.tree_fs.specs.Disk.{Disk}
use Rattle.tree_fs.proofs.Below.{above_value}
use Rattle.backup_keep.specs.Places.{backup_spot}
use Rattle.manifest_json.specs.declared.manifest.Row.{Row}
use Rattle.manifest_json.specs.declared.manifest.Manifest.{Manifest}
use Rattle.move_plan.specs.declared.plan.Plan.{Plan}
use Rattle.move_plan.specs.Places.{IsDestination, IsSetTo}
use Rattle.desk_model.specs.Places.{in_game}
use Rattle.desk_model.specs.Records.{row_at}
use Rattle.desk_model.specs.Desk.{is_file}
use Rattle.desk_model.specs.Deployed.{Win, won_spot, winner_of}
use Rattle.plan_model.specs.Moves.{Move, LaidOut}
use Rattle.plan_model.specs.Folders.{IsMade}
use Rattle.plan_model.proofs.Values.{HasFile, file_some, file_true}
use Rattle.plan_model.proofs.Moved.{set-moved, save-moved, moved-is_set}
use Rattle.plan_model.proofs.Firsts.{win-here}
use Rattle.plan_model.proofs.Paths.{above_backup}
use Rattle.deploy_plan.specs.Cases.{Case, untouched, leaves, stays, turns, comes, covers, case_by, case_of, set_by, Covers, deploy_moves}
use Rattle.deploy_plan.specs.Folders.{IsMissingFor}
use Rattle.deploy_plan.specs.Plans.{CanDeploy}
use Rattle.deploy_plan.proofs.Told.{Told, told_at, case_is, row_facts, win_facts}
use Rattle.deploy_plan.proofs.Sets.{SetCase, set_case, set_tells}

module _ (a : Disk) (old : Manifest) (wins : List Win) (can : CanDeploy a old wins) (plan : Plan) (laid : LaidOut (deploy_moves a old.rows wins) plan) where
  -- above a file every folder is there
  not_over : (s x : Spot) → HasFile (a.now x) → IsBelow s x → a.folders s ≡ false → ⊥
  not_over s x f b missing = let t : true ≡ false = sym (above_value a can.valid s x b (file_some (a.now x) f)) ∙ missing in cc

  for_new : (s x : Spot) (w : Win) → a.folders s ≡ false → IsBelow s x → in_game x.names ≡ x → row_at old.rows x.names ≡ None → winner_of wins x.names ≡ Some w → IsMissingFor a old.rows wins s
  for_new s x w missing b here is won =
      let f = win_facts a old wins can x.names w won in
      record {
        missing = missing;
        win = w;
        new = (f.listed, ap (row_at old.rows) f.here ∙ is);
        below = subst (IsBelow s) (sym (ap in_game f.here ∙ here)) b;
      }

  above_set : (s x : Spot) (v : Move) → a.folders s ≡ false → IsBelow s x → SetCase a old.rows wins x v → IsMissingFor a old.rows wins s
  above_set s x v missing b (set_case c at here e) = by_case c (told_at a old.rows wins x.names c at) e
    where
      over : (r : Row) → row_at old.rows x.names ≡ Some r → IsMissingFor a old.rows wins s
      over r is = absurd (not_over s (in_game x.names) (row_facts a old wins can x.names r is).deployed (subst (IsBelow s) (sym here) b) missing)

      by_case : (c : Case) → Told a old.rows wins x.names c → set_by a c ≡ Some v → IsMissingFor a old.rows wins s
      by_case untouched t e = absurd (cc)
      by_case (leaves r) t e = over r t.0
      by_case (stays r) t e = absurd (cc)
      by_case (turns r w) t e = over r t.0
      by_case (comes w) t e = for_new s x w missing b here t.0 t.1
      by_case (covers w) t e = for_new s x w missing b here t.0 t.1

  above_save : (s x y : Spot) → a.folders s ≡ false → IsBelow s x → Covers a old.rows wins y x → IsMissingFor a old.rows wins s
  above_save s x y missing b h =
      let t = told_at a old.rows wins (names_of h.win.path) (covers h.win) h.case in
      absurd (not_over s (game_spot h.win.path) (file_true (a.now (game_spot h.win.path)) t.2) (above_backup s h.win.path (subst (IsBelow s) (sym h.here) b)) missing)

  pub made-missing : (s : Spot) → IsMade a plan s → IsMissingFor a old.rows wins s
  made-missing s h = by_to h.to
    where
      by_to : IsDestination plan h.place → IsMissingFor a old.rows wins s
      by_to (inl set) = let m = set-moved (deploy_moves a old.rows wins) plan laid a.now h.place set in above_set s h.place m.0 h.missing h.below (set_tells a old.rows wins h.place m.0 m.1)
      by_to (inr save) = let m = save-moved (deploy_moves a old.rows wins) plan laid a.now h.place save in above_save s h.place m.0 h.missing h.below m.1

  pub missing-made : (s : Spot) → IsMissingFor a old.rows wins s → IsMade a plan s
  missing-made s h = record { missing = h.missing; place = game_spot h.win.path; to = inl (by_file (is_file (a.now (game_spot h.win.path))) refl); below = h.below }
    where
      won : winner_of wins (names_of h.win.path) ≡ Some h.win
      won = win-here wins h.win can.won.rise h.new.0

      case : (b : Bool) → is_file (a.now (game_spot h.win.path)) ≡ b → case_of a old.rows wins (names_of h.win.path) ≡ case_by None (Some h.win) b
      case b e = case_is a old.rows wins (names_of h.win.path) None (Some h.win) b h.new.1 won e

      by_file : (b : Bool) → is_file (a.now (game_spot h.win.path)) ≡ b → IsSetTo plan (game_spot h.win.path)
      by_file true e = moved-is_set (deploy_moves a old.rows wins) plan laid a.now (game_spot h.win.path) (record { from = Some (won_spot h.win); back = Some (backup_spot h.win.path) }) (ap (set_by a) (case true e))
      by_file false e = moved-is_set (deploy_moves a old.rows wins) plan laid a.now (game_spot h.win.path) (record { from = Some (won_spot h.win); back = None }) (ap (set_by a) (case false e))
