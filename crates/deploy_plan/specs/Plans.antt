-- The plan of a deployment, and when there is one.
use Rattle.std.specs.Prelude.{◌≡◌, List, map}
use Rattle.std.specs.declared.option.Option.TheVariants.{Some}
use Rattle.tree_fs.specs.Disk.{Disk, IsValid}
use Rattle.manifest_json.specs.declared.manifest.Manifest.{Manifest}
use Rattle.manifest_json.specs.Sound.{AreRows, AreFolders}
use Rattle.move_plan.specs.declared.plan.Plan.{Plan}
use Rattle.desk_model.specs.Deployed.{Win}
use Rattle.plan_model.specs.Moves.{LaidOut}
use Rattle.plan_model.specs.Folders.{FoldersLaidOut, OwnLaidOut}
use Rattle.deploy_plan.specs.Wins.{AreSoundWins}
use Rattle.deploy_plan.specs.Cases.{deploy_moves, next_row}
use Rattle.deploy_plan.specs.Refusals.{NoRefusal}

-- the plan of a deployment of these winners over an old manifest
pub record DeployPlan (a : Disk) (old : Manifest) (wins : List Win) (plan : Plan) : Type 0 where
  pub moves : LaidOut (deploy_moves a old.rows wins) plan
  pub folders : FoldersLaidOut a old.folders plan
  pub manifest : Manifest
  pub is_manifest : plan.manifest ≡ Some manifest
  pub rows : manifest.rows ≡ map (next_row a old.rows) wins
  pub own : OwnLaidOut a old.folders plan manifest.folders

-- the disk, the old manifest and the winners are in order, and nothing refuses the plan
pub record CanDeploy (a : Disk) (old : Manifest) (wins : List Win) : Type 0 where
  pub valid : IsValid a
  pub rows : AreRows old.rows
  pub own : AreFolders old.folders
  pub won : AreSoundWins a wins
  pub passes : NoRefusal a old.rows wins
