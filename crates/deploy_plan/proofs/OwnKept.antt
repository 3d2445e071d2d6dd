-- The new own folders can be those of a manifest.
use Rattle.std.proofs.Common.{ℕ, List, sym, subst, inl, inr}
use Rattle.list_laws.proofs.Alls.{all_from_contains}
use Rattle.rel_paths.specs.Names.{IsFreePath}
use Rattle.tree_fs.specs.Places.{game_spot}
use Rattle.tree_fs.specs.Disk.{Disk}
use Rattle.tree_fs.proofs.PlaceSpots.{game_spot-same}
use Rattle.manifest_json.specs.declared.manifest.Manifest.{Manifest}
use Rattle.manifest_json.specs.Sound.{AreFolders}
use Rattle.move_plan.specs.declared.plan.Plan.{Plan}
use Rattle.desk_model.specs.Deployed.{Win}
use Rattle.plan_model.specs.Moves.{LaidOut}
use Rattle.plan_model.specs.Folders.{IsListed, OwnLaidOut}
use Rattle.plan_model.proofs.Rows.{folder_free, above_free}
use Rattle.deploy_plan.specs.Cases.{deploy_moves}
use Rattle.deploy_plan.specs.Plans.{CanDeploy}
use Rattle.deploy_plan.proofs.Premises.{win_free}
use Rattle.deploy_plan.proofs.Made.{made-missing}

module _ (a : Disk) (old : Manifest) (wins : List Win) (can : CanDeploy a old wins) (plan : Plan) (laid : LaidOut (deploy_moves a old.rows wins) plan) where
  listed_free : (path : List ℕ) → IsListed a old.folders plan (game_spot path) → IsFreePath path
  listed_free path (inl h) = subst IsFreePath (sym (game_spot-same path h.path h.here)) (folder_free old.folders can.own h.path h.listed)
  listed_free path (inr h) =
      let m = made-missing a old wins can plan laid (game_spot path) h.1 in
      above_free path m.win.path m.below (win_free a wins can.won m.win m.new.0)

  pub own_kept : (next : List (List ℕ)) → OwnLaidOut a old.folders plan next → AreFolders next
  own_kept next own = record { good = all_from_contains IsFreePath next (λ path c. listed_free path ((own.folders path).0 c).0); rise = own.order }
