-- What a plan says of a place.
use Rattle.std.specs.Prelude.{◌≡◌, ◌⊎◌, ℕ, List}
use Rattle.std.specs.List.{Contains}
use Rattle.std.specs.declared.option.Option.{Option}
use Rattle.std.specs.declared.option.Option.TheVariants.{None, Some}
use Rattle.rel_paths.specs.Names.{IsUserPath}
use Rattle.tree_fs.specs.declared.place.Place.{Place}
use Rattle.tree_fs.specs.Spot.{Spot, spot_of, IsBelow}
use Rattle.backup_keep.specs.Places.{backup_spot, aside_folder}
use Rattle.move_plan.specs.declared.plan.SetRow.{SetRow}
use Rattle.move_plan.specs.declared.plan.Plan.{Plan}

-- a place for files that are kept: the backup place of a path, or one below the aside folder
abbrev pub IsKeeping : Spot → Type 0
IsKeeping x = ((path : List ℕ) × IsUserPath path × (x ≡ backup_spot path)) ⊎ IsBelow aside_folder x

-- one of these places lies here
pub record Has (places : List Place) (x : Spot) : Type 0 where
  pub place : Place
  pub listed : Contains places place
  pub here : spot_of place ≡ x

-- the place, if there is one, lies here
abbrev pub IsAt : Option Place → Spot → Type 0
IsAt None x = ⊥
IsAt (Some place) x = spot_of place ≡ x

-- a set's destination lies here
pub record IsSetTo (plan : Plan) (x : Spot) : Type 0 where
  pub row : SetRow
  pub listed : Contains plan.sets row
  pub here : spot_of row.to ≡ x

-- a set's source lies here
pub record IsSetFrom (plan : Plan) (x : Spot) : Type 0 where
  pub row : SetRow
  pub listed : Contains plan.sets row
  pub here : IsAt row.from x

-- a save's destination lies here
pub record IsSaveTo (plan : Plan) (x : Spot) : Type 0 where
  pub save : Place × Place
  pub listed : Contains plan.saves save
  pub here : spot_of save.1 ≡ x

-- the file at the first place is saved to the second
pub record IsSaved (plan : Plan) (from to : Spot) : Type 0 where
  pub save : Place × Place
  pub listed : Contains plan.saves save
  pub source : spot_of save.0 ≡ from
  pub here : spot_of save.1 ≡ to

-- the first place is set, and the file that stood there stays at the second
pub record IsBacked (plan : Plan) (to back : Spot) : Type 0 where
  pub row : SetRow
  pub listed : Contains plan.sets row
  pub here : spot_of row.to ≡ to
  pub place : Place
  pub is_back : row.back ≡ Some place
  pub there : spot_of place ≡ back

-- a set or a save puts something here
abbrev pub IsDestination : Plan → Spot → Type 0
IsDestination plan x = IsSetTo plan x ⊎ IsSaveTo plan x

-- a clear lies here
abbrev pub IsClear : Plan → Spot → Type 0
IsClear plan x = Has plan.clears x
