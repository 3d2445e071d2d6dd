-- A plan that has been carried out in part, told from the disk at which it began.
use Rattle.std.specs.Prelude.{◌≡◌, ◌⊎◌, ℕ, true, List}
use Rattle.std.specs.List.{Contains}
use Rattle.tree_fs.specs.declared.place.Place.{Place}
use Rattle.tree_fs.specs.Spot.{Spot, spot_of, IsBelow}
use Rattle.tree_fs.specs.Places.{game_spot}
use Rattle.tree_fs.specs.Disk.{Disk, Value, none, file, MayHold, HoldsOnly}
use Rattle.backup_keep.specs.Places.{backup_spot}
use Rattle.manifest_json.specs.declared.manifest.Row.{Row}
use Rattle.move_plan.specs.declared.plan.SetRow.{SetRow}
use Rattle.move_plan.specs.declared.plan.Plan.{Plan}
use Rattle.move_plan.specs.Places.{Has, IsSetTo, IsSetFrom, IsSaveTo, IsDestination, IsClear, IsAt}
use Rattle.desk_model.specs.Places.{IsControl}
use Rattle.desk_model.specs.Records.{rows_of, rows_on}
use Rattle.desk_model.specs.Outcome.{file_at, recorded_or_none}
use Rattle.change_detect.specs.Classes.{staged_of}

-- a place that a plan names
pub data IsNamedBy (plan : Plan) (x : Spot) : Type 0 where
  folder : Has plan.folders x → IsNamedBy plan x
  save_from : (s : Place × Place) → Contains plan.saves s → spot_of s.0 ≡ x → IsNamedBy plan x
  save_to : IsSaveTo plan x → IsNamedBy plan x
  set_to : IsSetTo plan x → IsNamedBy plan x
  set_from : IsSetFrom plan x → IsNamedBy plan x
  set_back : (row : SetRow) → Contains plan.sets row → IsAt row.back x → IsNamedBy plan x
  clear : IsClear plan x → IsNamedBy plan x
  off : Has plan.folders_off x → IsNamedBy plan x

-- the game place, the backup place or the staged place of a row
pub record IsOfRow (rows : List Row) (x : Spot) : Type 0 where
  pub row : Row
  pub listed : Contains rows row
  pub here : (x ≡ game_spot row.path) ⊎ (x ≡ backup_spot row.path) ⊎ (x ≡ staged_of row)

-- a place of the plan, or of a row of its manifest or of that of the disk
abbrev pub IsConcerned : Disk → Plan → Spot → Type 0
IsConcerned a plan x =
    IsNamedBy plan x ⊎ IsOfRow (rows_of (recorded_or_none plan.manifest)) x ⊎ IsOfRow (rows_on a) x

-- the places of an intent: these, and all folders above them
abbrev pub IsIntentPlace : Disk → Plan → Spot → Type 0
IsIntentPlace a plan x =
    IsConcerned a plan x ⊎ ((y : Spot) × IsBelow x y × IsConcerned a plan y)

-- no set is begun
abbrev pub SetsWait : Disk → Plan → Disk → Type 0
SetsWait a plan d = (x : Spot) → IsSetTo plan x → HoldsOnly d x (a.now x)

-- each save is done
abbrev pub SavesMade : Disk → Plan → Disk → Type 0
SavesMade a plan d = (s : Place × Place) → Contains plan.saves s
    → HoldsOnly d (spot_of s.1) (a.now (spot_of s.0))

pub record Mid (a : Disk) (plan : Plan) (d : Disk) : Type 0 where
  -- each value of a save's destination is none or the file of its source
  pub saves : (s : Place × Place) (v : Value) → Contains plan.saves s → MayHold d (spot_of s.1) v
      → (v ≡ none) ⊎ (v ≡ a.now (spot_of s.0))
  -- each value of a set's destination is its own, none, or the file of its source
  pub sets : (row : SetRow) (v : Value) → Contains plan.sets row → MayHold d (spot_of row.to) v
      → (v ≡ a.now (spot_of row.to)) ⊎ (v ≡ none) ⊎ (v ≡ file_at a.now row.from)
  -- first the saves, then the sets
  pub steps : SetsWait a plan d ⊎ SavesMade a plan d
  -- each other place of the intent has its value alone, but for control places
  pub rest : (x : Spot) → IsIntentPlace a plan x → ¬ IsDestination plan x → ¬ IsControl x
      → HoldsOnly d x (a.now x)
  -- no folder is gone, and only the plan's are made
  pub folders_stay : (x : Spot) → IsIntentPlace a plan x → a.folders x ≡ true → d.folders x ≡ true
  pub folders_made : (x : Spot) → IsIntentPlace a plan x → d.folders x ≡ true
      → (a.folders x ≡ true) ⊎ Has plan.folders x
  -- the files there have their bytes, and keep them in a stop
  pub bytes : (x : Spot) (n : ℕ) → IsIntentPlace a plan x → a.now x ≡ file n
      → (d.firm n ≡ true) × (d.bytes n ≡ a.bytes n)
