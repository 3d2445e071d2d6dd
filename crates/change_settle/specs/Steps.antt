-- What the walk over the rows finds in the way.
use Rattle.std.specs.Prelude.{◌≡◌, ◌⊎◌, true, List, ◌∷◌, ◌++◌}
use Rattle.std.specs.List.{AllByRecursion, Contains}
use Rattle.std.specs.declared.option.Option.TheVariants.{Some}
use Rattle.tree_fs.specs.Spot.{Spot, spot_of}
use Rattle.tree_fs.specs.Disk.{Disk}
use Rattle.backup_keep.specs.Places.{backup_spot}
use Rattle.backup_keep.specs.Asides.{HasAside, IsAsideOpen}
use Rattle.manifest_json.specs.declared.manifest.Row.{Row}
use Rattle.desk_model.specs.Settled.{Deed, put_aside, imported, reverted, let_go}
use Rattle.plan_model.specs.Rows.{IsFileOrAbsent}
use Rattle.deploy_plan.specs.Refusals.{IsBlocking, HasOpenParents}
use Rattle.change_settle.specs.declared.error.SettleError.{SettleError}
use Rattle.change_settle.specs.declared.error.SettleError.TheVariants.{Blocked, AsideFull, Failed, Memory}
use Rattle.change_settle.specs.declared.walk.RowStep.{RowStep}
use Rattle.change_settle.specs.Above.{NoneAbove, IsOutermostOf, TellsAbove}
use Rattle.change_settle.specs.Deeds.{saved_spot}
use Rattle.change_settle.specs.Refusals.{restored_spot, NeedsBackup, IsInParentsWay, IsInBackupsWay, IsAsideBlocked}
use Rattle.change_settle.specs.Tasks.{deed_seen}

abbrev pub step_task : RowStep → Row × Deed
step_task s = (s.row.now, deed_seen s.act)

-- of the folders above the place that is put back these are the ones in the way
abbrev pub TellsFor : Disk → List Spot → Row × Deed → Type 0
TellsFor a blocked t = (x : Spot) → restored_spot t.0 t.1 ≡ Some x → TellsAbove a blocked x

-- none of these is above the place that is put back
abbrev pub NoneAboveTask : List Spot → Row × Deed → Type 0
NoneAboveTask blocked t = (x : Spot) → restored_spot t.0 t.1 ≡ Some x → NoneAbove blocked x

-- the outermost of these above the place that is put back
pub record IsAboveTask (blocked : List Spot) (t : Row × Deed) (s : Spot) : Type 0 where
  pub place : Spot
  pub restored : restored_spot t.0 t.1 ≡ Some place
  pub outermost : IsOutermostOf blocked place s

abbrev pub IsTaskBlocked : List Spot → Row × Deed → SettleError → Type 0
IsTaskBlocked blocked t (Blocked place) = IsAboveTask blocked t (spot_of place)
IsTaskBlocked blocked t AsideFull = ⊥
IsTaskBlocked blocked t Failed = ⊥
IsTaskBlocked blocked t Memory = Unit {0}

-- something that is no file stands at this place
abbrev pub IsBlockedAt : Disk → Spot → SettleError → Type 0
IsBlockedAt a x (Blocked place) = IsBlocking a x × (spot_of place ≡ x)
IsBlockedAt a x AsideFull = ⊥
IsBlockedAt a x Failed = Unit {0}
IsBlockedAt a x Memory = Unit {0}

-- it does so at the backup place of a shadowed row
abbrev pub IsBackupBlocked : Disk → Row → SettleError → Type 0
IsBackupBlocked a r e = (r.shadowed ≡ true) × IsBlockedAt a (backup_spot r.path) e

-- nothing is in the way of what is done with a row
pub record IsOpen (a : Disk) (t : Row × Deed) : Type 0 where
  pub parents : (x : Spot) → restored_spot t.0 t.1 ≡ Some x → HasOpenParents a x
  pub behind : NeedsBackup t.0 t.1 → IsFileOrAbsent a (backup_spot t.0.path)

-- this is in the way of it
abbrev pub IsInTaskWay : Disk → Row × Deed → Spot → Type 0
IsInTaskWay a t x = IsInParentsWay a t.0 t.1 x ⊎ IsInBackupsWay a t.0 t.1 x

-- the answer for what is in the way
abbrev pub Refuses : (Spot → Type 0) → SettleError → Type 0
Refuses in_the_way (Blocked place) = in_the_way (spot_of place)
Refuses in_the_way AsideFull = ⊥
Refuses in_the_way Failed = Unit {0}
Refuses in_the_way Memory = Unit {0}

-- it is in the way of the first of these that has something in its way
pub record IsFirstOf (a : Disk) (tasks : List (Row × Deed)) (x : Spot) : Type 0 where
  pub front : List (Row × Deed)
  pub task : Row × Deed
  pub back : List (Row × Deed)
  pub split : tasks ≡ front ++ task ∷ back
  pub passed : AllByRecursion (IsOpen a) front
  pub there : IsInTaskWay a task x

-- a file of its row is set aside
abbrev pub IsSaving : Deed → Type 0
IsSaving put_aside = Unit {0}
IsSaving imported = Unit {0}
IsSaving reverted = Unit {0}
IsSaving let_go = Unit {0}
IsSaving _ = ⊥

-- the file of one of these is to be set aside
pub record SavesSome (tasks : List (Row × Deed)) : Type 0 where
  pub task : Row × Deed
  pub among : Contains tasks task
  pub origin : Spot
  pub saved : saved_spot task.0 task.1 ≡ Some origin

-- why there is no number for what is set aside
abbrev pub IsAsideRefusal : Disk → SettleError → Type 0
IsAsideRefusal a (Blocked place) = IsAsideBlocked a (spot_of place)
IsAsideRefusal a AsideFull = IsAsideOpen a × HasAside a 4294967295
IsAsideRefusal a Failed = Unit {0}
IsAsideRefusal a Memory = Unit {0}
