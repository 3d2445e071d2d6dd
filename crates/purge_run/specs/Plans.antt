-- The plan of a purge, and when there is one.
use Rattle.std.specs.Prelude.{◌≡◌, ℕ}
use Rattle.std.specs.declared.option.Option.TheVariants.{None}
use Rattle.tree_fs.specs.Disk.{Disk, IsValid}
use Rattle.backup_keep.specs.Asides.{IsNextAside}
use Rattle.manifest_json.specs.declared.manifest.Manifest.{Manifest}
use Rattle.manifest_json.specs.Sound.{AreRows, AreFolders}
use Rattle.move_plan.specs.declared.plan.Plan.{Plan}
use Rattle.plan_model.specs.Moves.{LaidOut}
use Rattle.plan_model.specs.Folders.{FoldersLaidOut}
use Rattle.purge_run.specs.Holds.{purge_moves}
use Rattle.purge_run.specs.Refusals.{SetsSomeAside, NoRefusal}

-- the plan of a purge over an old manifest, where what is set aside has this number
pub record PurgePlan (a : Disk) (old : Manifest) (n : ℕ) (plan : Plan) : Type 0 where
  pub moves : LaidOut (purge_moves a old.rows n) plan
  pub folders : FoldersLaidOut a old.folders plan
  pub manifest : plan.manifest ≡ None

-- the disk and the old manifest are in order, the number is the next one where one is needed, and
-- nothing refuses the plan
pub record CanPurge (a : Disk) (old : Manifest) (n : ℕ) : Type 0 where
  pub valid : IsValid a
  pub rows : AreRows old.rows
  pub own : AreFolders old.folders
  pub next : SetsSomeAside a old.rows → IsNextAside a n
  pub passes : NoRefusal a old.rows

-- the plan of a purge over an old manifest that nothing refuses: what is set aside has the next
-- number
pub record IsPurgePlan (a : Disk) (old : Manifest) (plan : Plan) : Type 0 where
  pub number : ℕ
  pub can : CanPurge a old number
  pub is : PurgePlan a old number plan
