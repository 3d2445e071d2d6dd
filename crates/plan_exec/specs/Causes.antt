-- Why an entry of a plan can't be done, and which entry is the first.
use Rattle.std.specs.Prelude.{◌≡◌, List, ◌∷◌, ◌++◌}
use Rattle.std.specs.List.{Contains}
use Rattle.std.specs.declared.option.Option.{Option}
use Rattle.std.specs.declared.option.Option.TheVariants.{None, Some}
use Rattle.tree_fs.specs.declared.name.Kind.{Kind}
use Rattle.tree_fs.specs.declared.name.Kind.TheVariants.{Absent, File, Folder, Other}
use Rattle.tree_fs.specs.declared.place.Place.{Place}
use Rattle.tree_fs.specs.declared.tree.TreeError.{TreeError}
use Rattle.tree_fs.specs.declared.tree.TreeError.TheVariants as tree
use Rattle.tree_fs.specs.Spot.{Spot, spot_of, parent}
use Rattle.tree_fs.specs.Disk.{Disk, kind_of}
use Rattle.tree_fs.specs.Story.{Story}
use Rattle.move_plan.specs.declared.plan.SetRow.{SetRow}
use Rattle.plan_exec.specs.declared.error.ExecError.{ExecError}
use Rattle.plan_exec.specs.declared.error.ExecError.TheVariants.{SourceGone, Blocked, Failed, Memory}

-- the answer for a tree's fault
abbrev pub of_tree : TreeError → ExecError
of_tree tree.Failed = Failed
of_tree tree.Memory = Memory

-- why an entry can't be done: its source is no file, or what is at a place is in the way
pub data Obstacle : Type 0 where
  no_source : Spot → Obstacle
  in_the_way : Spot → Obstacle

-- the first of two
abbrev pub or_then : Option Obstacle → Option Obstacle → Option Obstacle
or_then None other = other
or_then (Some o) other = Some o

-- a source must be a file
abbrev pub source_by : Kind → Spot → Option Obstacle
source_by File x = None
source_by Absent x = Some (no_source x)
source_by Folder x = Some (no_source x)
source_by Other x = Some (no_source x)

-- a destination or clear must be a file or absent
abbrev pub place_by : Kind → Spot → Option Obstacle
place_by File x = None
place_by Absent x = None
place_by Folder x = Some (in_the_way x)
place_by Other x = Some (in_the_way x)

-- a parent must be a folder
abbrev pub parent_by : Kind → Spot → Option Obstacle
parent_by Folder x = None
parent_by Absent x = Some (in_the_way x)
parent_by File x = Some (in_the_way x)
parent_by Other x = Some (in_the_way x)

-- why a file can't come to a place: the source is looked at first, then the place, then its parent
abbrev pub link_obstacle : Disk → (from to : Spot) → Option Obstacle
link_obstacle d from to =
    or_then (source_by (kind_of d from) from)
    (or_then (place_by (kind_of d to) to) (parent_by (kind_of d (parent to)) (parent to)))

-- why a clear can't be done
abbrev pub clear_obstacle : Disk → Place → Option Obstacle
clear_obstacle d at = place_by (kind_of d (spot_of at)) (spot_of at)

abbrev pub set_obstacle_from : Disk → Option Place → Place → Option Obstacle
set_obstacle_from d None to = clear_obstacle d to
set_obstacle_from d (Some from) to = link_obstacle d (spot_of from) (spot_of to)

-- why a set can't be done
abbrev pub set_obstacle : Disk → SetRow → Option Obstacle
set_obstacle d row = set_obstacle_from d row.from row.to

-- a destination that is a file needs nothing
abbrev pub save_obstacle_by : Kind → Option Obstacle → Option Obstacle
save_obstacle_by File other = None
save_obstacle_by Absent other = other
save_obstacle_by Folder other = other
save_obstacle_by Other other = other

-- why a save can't be done
abbrev pub save_obstacle : Disk → Place × Place → Option Obstacle
save_obstacle d save =
    save_obstacle_by (kind_of d (spot_of save.1))
    (link_obstacle d (spot_of save.0) (spot_of save.1))

-- the error tells this obstacle; a fault and want of memory tell of none
abbrev pub Tells : Option Obstacle → ExecError → Type 0
Tells o (SourceGone p) = o ≡ Some (no_source (spot_of p))
Tells o (Blocked p) = o ≡ Some (in_the_way (spot_of p))
Tells o Failed = Unit {0}
Tells o Memory = Unit {0}

-- a fault or want of memory
abbrev pub IsFault : ExecError → Type 0
IsFault (SourceGone p) = ⊥
IsFault (Blocked p) = ⊥
IsFault Failed = Unit {0}
IsFault Memory = Unit {0}

-- an entry with an obstacle, for which nothing has been changed, behind entries that have none and
-- are done
pub record FirstWith {X : Type 0} (obstacle : X → Option Obstacle) (Done Waits : X → Type 0)
    (entries : List X) (told : Obstacle) : Type 0 where
  pub front : List X
  pub entry : X
  pub rest : List X
  pub split : entries ≡ front ++ entry ∷ rest
  pub none_before : (x : X) → Contains front x → obstacle x ≡ None
  pub done_before : (x : X) → Contains front x → Done x
  pub has : obstacle entry ≡ Some told
  pub waits : Waits entry

-- the error tells the obstacle of the first entry that has one; the entries in front of it are done,
-- and it waits. A fault and want of memory may come anywhere
abbrev pub StopsAtFirst : {X : Type 0} → (X → Option Obstacle) → (Done Waits : X → Type 0)
    → List X → ExecError → Type 0
StopsAtFirst obstacle Done Waits entries (SourceGone p) =
    FirstWith obstacle Done Waits entries (no_source (spot_of p))
StopsAtFirst obstacle Done Waits entries (Blocked p) =
    FirstWith obstacle Done Waits entries (in_the_way (spot_of p))
StopsAtFirst obstacle Done Waits entries Failed = Unit {0}
StopsAtFirst obstacle Done Waits entries Memory = Unit {0}

-- no entry has an obstacle
abbrev pub NoneHas : {X : Type 0} → (X → Option Obstacle) → List X → Type 0
NoneHas obstacle entries = (x : _) → Contains entries x → obstacle x ≡ None

-- an entry with an obstacle is left as it is
abbrev pub StillBut : Story → Story → ExecError → Type 0
StillBut old new (SourceGone p) = new ≡ old
StillBut old new (Blocked p) = new ≡ old
StillBut old new Failed = Unit {0}
StillBut old new Memory = Unit {0}
