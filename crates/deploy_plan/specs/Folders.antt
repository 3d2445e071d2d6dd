-- Which folders a deployment makes.
use Rattle.std.specs.Prelude.{◌≡◌, false, List}
use Rattle.tree_fs.specs.Spot.{Spot, IsBelow}
use Rattle.tree_fs.specs.Places.{game_spot}
use Rattle.tree_fs.specs.Disk.{Disk}
use Rattle.manifest_json.specs.declared.manifest.Row.{Row}
use Rattle.desk_model.specs.Deployed.{Win}
use Rattle.deploy_plan.specs.Refusals.{IsNewWin}

-- a missing folder above the path of a winner without an old row
pub record IsMissingFor (a : Disk) (rows : List Row) (wins : List Win) (s : Spot) : Type 0 where
  pub missing : a.folders s ≡ false
  pub win : Win
  pub new : IsNewWin rows wins win
  pub below : IsBelow s (game_spot win.path)
