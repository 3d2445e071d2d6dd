-- Why a settlement has no plan: the first reason, in their order.
use Rattle.std.specs.Prelude.{◌≡◌, ◌≢◌, ◌⊎◌, true, List}
use Rattle.std.specs.List.{Contains}
use Rattle.std.specs.Ordering.{nat_cmp}
use Rattle.std.specs.Cmp.Lexicographic.{slice_cmp}
use Rattle.std.specs.declared.cmp.Ordering.TheVariants.{Less}
use Rattle.std.specs.declared.option.Option.{Option}
use Rattle.std.specs.declared.option.Option.TheVariants.{None, Some}
use Rattle.tree_fs.specs.declared.name.Kind.TheVariants.{File, Other}
use Rattle.tree_fs.specs.Spot.{Spot, spot_of}
use Rattle.tree_fs.specs.Places.{game_spot}
use Rattle.tree_fs.specs.Disk.{Disk, kind_of}
use Rattle.backup_keep.specs.Places.{backup_spot, aside_folder}
use Rattle.backup_keep.specs.Asides.{HasAside, IsAsideOpen}
use Rattle.manifest_json.specs.declared.manifest.Row.{Row}
use Rattle.change_detect.specs.Classes.{staged_of}
use Rattle.desk_model.specs.Settled.{Choice, Deed, left_whole, put_aside, imported, reverted, accepted, linked_again, staged_again, let_go, dropped, deed_of}
use Rattle.plan_model.specs.Rows.{IsFileOrAbsent}
use Rattle.deploy_plan.specs.Refusals.{IsBlocking, HasOpenParents, IsOutermost}
use Rattle.purge_run.specs.Refusals.{HasAsideRoom}
use Rattle.change_settle.specs.declared.error.SettleError.{SettleError}
use Rattle.change_settle.specs.declared.error.SettleError.TheVariants.{Blocked, AsideFull, Failed, Memory}
use Rattle.change_settle.specs.Deeds.{saved_spot}

-- the place where a file is put back
abbrev pub restored_spot : Row → Deed → Option Spot
restored_spot r linked_again = Some (game_spot r.path)
restored_spot r staged_again = Some (staged_of r)
restored_spot r _ = None

-- a row that goes needs its backup place, where it is shadowed
abbrev pub NeedsBackup : Row → Deed → Type 0
NeedsBackup r let_go = r.shadowed ≡ true
NeedsBackup r dropped = r.shadowed ≡ true
NeedsBackup r left_whole = ⊥
NeedsBackup r put_aside = ⊥
NeedsBackup r imported = ⊥
NeedsBackup r reverted = ⊥
NeedsBackup r accepted = ⊥
NeedsBackup r linked_again = ⊥
NeedsBackup r staged_again = ⊥

-- the outermost parent in the way of a file that is put back
pub record IsInParentsWay (a : Disk) (r : Row) (d : Deed) (x : Spot) : Type 0 where
  pub place : Spot
  pub restored : restored_spot r d ≡ Some place
  pub outermost : IsOutermost a place x

-- a folder or something odd at the backup place of a shadowed row that goes
pub record IsInBackupsWay (a : Disk) (r : Row) (d : Deed) (x : Spot) : Type 0 where
  pub needed : NeedsBackup r d
  pub blocking : IsBlocking a (backup_spot r.path)
  pub here : x ≡ backup_spot r.path

-- something of the wrong kind is in the way of what is done with a row
abbrev pub IsInTheWay : Choice → Disk → Row → Spot → Type 0
IsInTheWay choice a r x =
    IsInParentsWay a r (deed_of choice a r) x ⊎ IsInBackupsWay a r (deed_of choice a r) x

-- what is in the way of the first row that has something in its way
pub record IsFirstInTheWay (choice : Choice) (a : Disk) (rows : List Row) (x : Spot) : Type 0 where
  pub row : Row
  pub listed : Contains rows row
  pub there : IsInTheWay choice a row x
  pub least : (other : Row) (y : Spot) → Contains rows other → IsInTheWay choice a other y
      → slice_cmp nat_cmp other.path row.path ≢ Less

-- nothing is in the way of any row
pub record WalkPasses (choice : Choice) (a : Disk) (rows : List Row) : Type 0 where
  pub parents : (r : Row) (x : Spot) → Contains rows r
      → restored_spot r (deed_of choice a r) ≡ Some x → HasOpenParents a x
  pub behind : (r : Row) → Contains rows r → NeedsBackup r (deed_of choice a r)
      → IsFileOrAbsent a (backup_spot r.path)

-- a file is to be set aside
pub record SetsSomeAside (choice : Choice) (a : Disk) (rows : List Row) : Type 0 where
  pub row : Row
  pub listed : Contains rows row
  pub origin : Spot
  pub saved : saved_spot row (deed_of choice a row) ≡ Some origin

-- nothing refuses the plan
pub record NoRefusal (choice : Choice) (a : Disk) (rows : List Row) : Type 0 where
  pub walk : WalkPasses choice a rows
  pub aside : SetsSomeAside choice a rows → HasAsideRoom a

-- an answer that is no fault of the tree and no want of memory
abbrev pub IsRefusal : SettleError → Type 0
IsRefusal (Blocked place) = Unit {0}
IsRefusal AsideFull = Unit {0}
IsRefusal Failed = ⊥
IsRefusal Memory = ⊥

-- what is set aside has no room: something that is no folder stands at the aside folder's place
pub record IsAsideBlocked (a : Disk) (x : Spot) : Type 0 where
  pub here : x ≡ aside_folder
  pub taken : (kind_of a aside_folder ≡ File) ⊎ (kind_of a aside_folder ≡ Other)

-- the first reason, with what it carries
abbrev pub IsSettleRefusal : Choice → Disk → List Row → SettleError → Type 0
IsSettleRefusal choice a rows (Blocked place) =
    IsFirstInTheWay choice a rows (spot_of place)
    ⊎ WalkPasses choice a rows × SetsSomeAside choice a rows × IsAsideBlocked a (spot_of place)
IsSettleRefusal choice a rows AsideFull =
    WalkPasses choice a rows × SetsSomeAside choice a rows × IsAsideOpen a
    × HasAside a 4294967295
IsSettleRefusal choice a rows Failed = Unit {0}
IsSettleRefusal choice a rows Memory = Unit {0}
