-- The plan of a settlement, and when there is one.
use Rattle.std.specs.Prelude.{◌≡◌, ℕ}
use Rattle.std.specs.declared.option.Option.TheVariants.{None, Some}
use Rattle.tree_fs.specs.Disk.{Disk, IsValid}
use Rattle.backup_keep.specs.Asides.{IsNextAside}
use Rattle.manifest_json.specs.declared.manifest.Manifest.{Manifest}
use Rattle.manifest_json.specs.Sound.{AreRows, AreFolders}
use Rattle.change_detect.specs.Refusals.{first_blocked}
use Rattle.move_plan.specs.declared.plan.Plan.{Plan}
use Rattle.desk_model.specs.Settled.{Choice, IsAllowed}
use Rattle.plan_model.specs.Moves.{LaidOut}
use Rattle.plan_model.specs.Folders.{FoldersLaidOut, OwnLaidOut}
use Rattle.change_settle.specs.Deeds.{settle_moves, next_rows}
use Rattle.change_settle.specs.Refusals.{SetsSomeAside, NoRefusal}

-- the plan of a settlement over an old manifest, where what is set aside has this number
pub record SettlePlan (choice : Choice) (a : Disk) (old : Manifest) (n : ℕ)
    (plan : Plan) : Type 0 where
  pub moves : LaidOut (settle_moves choice a old.rows n) plan
  pub folders : FoldersLaidOut a old.folders plan
  pub manifest : Manifest
  pub is_manifest : plan.manifest ≡ Some manifest
  pub rows : manifest.rows ≡ next_rows choice a old.rows
  pub own : OwnLaidOut a old.folders plan manifest.folders

-- the disk, the old manifest and the choice are in order, the changes of the rows can be told, the
-- number is the next one where one is needed, and nothing refuses the plan
pub record CanSettle (choice : Choice) (a : Disk) (old : Manifest) (n : ℕ) : Type 0 where
  pub valid : IsValid a
  pub rows : AreRows old.rows
  pub own : AreFolders old.folders
  pub allowed : IsAllowed choice
  pub unblocked : first_blocked a old.rows ≡ None
  pub next : SetsSomeAside choice a old.rows → IsNextAside a n
  pub passes : NoRefusal choice a old.rows

-- with the number of what it sets aside
pub record IsSettlePlan (choice : Choice) (a : Disk) (old : Manifest) (plan : Plan) : Type 0 where
  pub number : ℕ
  pub can : CanSettle choice a old number
  pub is : SettlePlan choice a old number plan
