-- What making a plan's folders and taking its folders off change.
use Rattle.std.specs.Prelude.{◌≡◌, ◌⊎◌, true, List, ◌∷◌, ◌++◌}
use Rattle.std.specs.declared.option.Option.{Option}
use Rattle.std.specs.declared.option.Option.TheVariants.{None, Some}
use Rattle.tree_fs.specs.declared.name.Kind.{Kind}
use Rattle.tree_fs.specs.declared.name.Kind.TheVariants.{File, Folder, Absent, Other}
use Rattle.tree_fs.specs.declared.place.Place.{Place}
use Rattle.tree_fs.specs.Spot.{Spot, spot_of, parent}
use Rattle.tree_fs.specs.Disk.{Disk, IsValid, kind_of}
use Rattle.tree_fs.specs.Calls.{IsFolder}
use Rattle.move_plan.specs.Places.{Has}
use Rattle.plan_exec.specs.declared.error.ExecError.{ExecError}
use Rattle.plan_exec.specs.Causes.{Obstacle, in_the_way, parent_by, Tells}

-- only folders change
pub record SameBesideFolders (a e : Disk) : Type 0 where
  pub now : e.now ≡ a.now
  pub before : e.before ≡ a.before
  pub bytes : e.bytes ≡ a.bytes
  pub firm : e.firm ≡ a.firm
  pub fresh : e.fresh ≡ a.fresh

-- some folders that are to be made may be made, and nothing else changes
pub record Makes (new : Spot → Type 0) (a e : Disk) : Type 0 where
  pub valid : IsValid e
  pub same : SameBesideFolders a e
  pub kept : (x : Spot) → a.folders x ≡ true → e.folders x ≡ true
  pub made : (x : Spot) → e.folders x ≡ true → (a.folders x ≡ true) ⊎ new x

-- a folder is there, or can be made where nothing is and its parent is a folder
abbrev pub folder_by : Kind → Spot → Option Obstacle → Option Obstacle
folder_by Folder x other = None
folder_by Absent x other = other
folder_by File x other = Some (in_the_way x)
folder_by Other x other = Some (in_the_way x)

-- why a folder can't be made: the place is looked at first, then its parent
abbrev pub folder_obstacle : Disk → Spot → Option Obstacle
folder_obstacle d at =
    folder_by (kind_of d at) at (parent_by (kind_of d (parent at)) (parent at))

-- a folder can't be made, told on a disk on which those in front of it are there
pub record CantMakeOne (folders : List Place) (a : Disk) (error : ExecError) : Type 0 where
  pub front : List Place
  pub at : Place
  pub later : List Place
  pub split : folders ≡ front ++ at ∷ later
  pub d : Disk
  pub so_far : Makes (Has folders) a d
  pub there : (x : Spot) → Has front x → IsFolder d x
  pub why : Tells (folder_obstacle d (spot_of at)) error
