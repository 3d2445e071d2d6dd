-- What may change on a disk, place by place.
use Rattle.std.specs.Prelude.{◌≡◌, ◌⊎◌}
use Rattle.std.specs.List.{Contains}
use Rattle.tree_fs.specs.declared.place.Place.{Place}
use Rattle.tree_fs.specs.Spot.{Spot, spot_of}
use Rattle.tree_fs.specs.Disk.{Disk, Value, none, MayHold, IsFile, IsValid}
use Rattle.tree_fs.specs.Frames.{SameFiles, Touches}
use Rattle.move_plan.specs.declared.plan.SetRow.{SetRow}
use Rattle.move_plan.specs.declared.plan.Plan.{Plan}
use Rattle.move_plan.specs.Places.{IsSetTo, IsSaveTo, IsDestination, IsClear}
use Rattle.desk_model.specs.Desk.{file_or_none}
use Rattle.desk_model.specs.Outcome.{file_at}

-- none or the source's file, at a set's destination
pub record IsPut (plan : Plan) (a : Disk) (x : Spot) (v : Value) : Type 0 where
  pub row : SetRow
  pub listed : Contains plan.sets row
  pub here : spot_of row.to ≡ x
  pub value : (v ≡ none) ⊎ (v ≡ file_at a.now row.from)

-- nothing but sets, each in part
pub record Puts (plan : Plan) (a e : Disk) : Type 0 where
  pub valid : IsValid e
  pub files : SameFiles a e
  pub held : (x : Spot) (v : Value) → MayHold e x v → MayHold a x v ⊎ IsPut plan a x v
  pub now : (x : Spot) → ¬ IsSetTo plan x → e.now x ≡ a.now x

-- one save: a destination that is a file stays as it is
pub record Brings (at : Spot) (w : Value) (a e : Disk) : Type 0 where
  pub touches : Touches at w a e
  pub had : IsFile a at → (v : Value) → MayHold e at v → MayHold a at v
  pub still : IsFile a at → e.now at ≡ a.now at

-- none or the source's file, at a save's destination
pub record IsSave (plan : Plan) (a : Disk) (x : Spot) (v : Value) : Type 0 where
  pub save : Place × Place
  pub listed : Contains plan.saves save
  pub here : spot_of save.1 ≡ x
  pub value : (v ≡ none) ⊎ (v ≡ file_or_none (a.now (spot_of save.0)))

-- nothing but saves, each in part
pub record Saves (plan : Plan) (a e : Disk) : Type 0 where
  pub valid : IsValid e
  pub files : SameFiles a e
  pub held : (x : Spot) (v : Value) → MayHold e x v → MayHold a x v ⊎ IsSave plan a x v
  pub now : (x : Spot) → ¬ IsSaveTo plan x → e.now x ≡ a.now x
  pub had : (x : Spot) (v : Value) → IsFile a x → MayHold e x v → MayHold a x v
  pub still : (x : Spot) → IsFile a x → e.now x ≡ a.now x

-- nothing but clears, each in part
pub record Clears (plan : Plan) (a e : Disk) : Type 0 where
  pub valid : IsValid e
  pub files : SameFiles a e
  pub held : (x : Spot) (v : Value) → MayHold e x v → MayHold a x v ⊎ IsClear plan x × (v ≡ none)
  pub now : (x : Spot) → ¬ IsClear plan x → e.now x ≡ a.now x

-- nothing but saves and sets: off their destinations each place holds only what it held, and has
-- what it had
pub record Moves (plan : Plan) (a e : Disk) : Type 0 where
  pub valid : IsValid e
  pub files : SameFiles a e
  pub held : (x : Spot) (v : Value) → ¬ IsDestination plan x → MayHold e x v → MayHold a x v
  pub now : (x : Spot) → ¬ IsDestination plan x → e.now x ≡ a.now x
