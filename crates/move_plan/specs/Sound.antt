-- When a plan is sound on a disk.
use Rattle.std.specs.Prelude.{◌≡◌, ◌⊎◌, ◌↔◌, ℕ}
use Rattle.std.specs.List.{Contains}
use Rattle.std.specs.declared.option.Option.TheVariants.{None, Some}
use Rattle.tree_fs.specs.declared.name.Kind.TheVariants.{Absent, Folder}
use Rattle.tree_fs.specs.declared.place.Place.{Place}
use Rattle.tree_fs.specs.Spot.{Spot, spot_of, IsBelow}
use Rattle.tree_fs.specs.Disk.{Disk, file, IsFile, kind_of}
use Rattle.tree_fs.specs.Calls.{IsFolder}
use Rattle.move_plan.specs.declared.plan.SetRow.{SetRow}
use Rattle.move_plan.specs.declared.plan.Plan.{Plan}
use Rattle.move_plan.specs.Places.{Has, IsSetFrom, IsSaveTo, IsDestination, IsClear}
use Rattle.move_plan.specs.Rules.{PassesRules}

-- two places are names of one file
pub record AreOneFile (d : Disk) (x y : Spot) : Type 0 where
  pub number : ℕ
  pub first : d.now x ≡ file number
  pub second : d.now y ≡ file number

pub record SoundPlan (d : Disk) (plan : Plan) : Type 0 where
  pub rules : PassesRules plan
  -- saves' destinations are absent, and their sources are files
  pub save_absent : (s : Place × Place) → Contains plan.saves s → kind_of d (spot_of s.1) ≡ Absent
  pub save_source : (s : Place × Place) → Contains plan.saves s → IsFile d (spot_of s.0)
  -- sets' sources are files
  pub set_source : (x : Spot) → IsSetFrom plan x → IsFile d x
  -- a `back` that is no save's destination is one file with its set's destination
  pub back_same : (row : SetRow) (back : Place) → Contains plan.sets row → row.back ≡ Some back → ¬ IsSaveTo plan (spot_of back) → AreOneFile d (spot_of back) (spot_of row.to)
  -- there is no `back` exactly where the destination is absent
  pub back_none : (row : SetRow) → Contains plan.sets row → (row.back ≡ None ↔ kind_of d (spot_of row.to) ≡ Absent)
  -- each clear is a set's source or a save's destination
  pub clear_used : (x : Spot) → IsClear plan x → IsSetFrom plan x ⊎ IsSaveTo plan x
  -- the parents of what is made are folders, or are made too
  pub parents : (x s : Spot) → IsDestination plan x ⊎ Has plan.folders x → IsBelow s x → IsFolder d s ⊎ Has plan.folders s
  -- folders to make are absent or folders
  pub made : (x : Spot) → Has plan.folders x → (kind_of d x ≡ Absent) ⊎ (kind_of d x ≡ Folder)
