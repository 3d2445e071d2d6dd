-- Why the changes of rows can't be told.
use Rattle.std.specs.Prelude.{◌≡◌, Bool, true, false, List, [], ◌∷◌, find, flat_map}
use Rattle.std.specs.declared.option.Option.{Option}
use Rattle.std.specs.declared.option.Option.TheVariants.{Some}
use Rattle.tree_fs.specs.declared.name.Kind.{Kind}
use Rattle.tree_fs.specs.declared.name.Kind.TheVariants.{Absent, File, Folder, Other}
use Rattle.tree_fs.specs.declared.tree.TreeError.{TreeError}
use Rattle.tree_fs.specs.declared.tree.TreeError.TheVariants as tree
use Rattle.tree_fs.specs.Spot.{Spot, spot_of}
use Rattle.tree_fs.specs.Places.{game_spot}
use Rattle.tree_fs.specs.Disk.{Disk, kind_of}
use Rattle.manifest_json.specs.declared.manifest.Row.{Row}
use Rattle.change_detect.specs.declared.error.ChangeError.{ChangeError}
use Rattle.change_detect.specs.declared.error.ChangeError.TheVariants.{Blocked, Failed, Memory}
use Rattle.change_detect.specs.Classes.{staged_of}

-- the answer for a tree's fault
abbrev pub of_tree : TreeError → ChangeError
of_tree tree.Failed = Failed
of_tree tree.Memory = Memory

-- whether what stands at a place is in the way of a file: a folder, or something odd
abbrev pub is_blocking : Kind → Bool
is_blocking Absent = false
is_blocking File = false
is_blocking Folder = true
is_blocking Other = true

-- the kind of a place that isn't blocked
abbrev pub file_or_absent : Bool → Kind
file_or_absent true = File
file_or_absent false = Absent

-- the places of rows in their order, of each row the game place and then the staged place
abbrev pub places_of : List Row → List Spot
places_of rows = flat_map (λ r. game_spot r.path ∷ staged_of r ∷ []) rows

-- the first of these places at which a folder or something odd stands
abbrev pub first_blocked : Disk → List Row → Option Spot
first_blocked d rows = find (λ x. is_blocking (kind_of d x)) (places_of rows)

-- why the changes of these rows can't be told
abbrev pub IsChangeRefusal : Disk → List Row → ChangeError → Type 0
IsChangeRefusal d rows (Blocked place) = first_blocked d rows ≡ Some (spot_of place)
IsChangeRefusal d rows Failed = Unit {0}
IsChangeRefusal d rows Memory = Unit {0}

-- why it can't be told whether a file is at a place
abbrev pub IsBlockedAt : Disk → Spot → ChangeError → Type 0
IsBlockedAt d at (Blocked place) = (spot_of place ≡ at) × (is_blocking (kind_of d at) ≡ true)
IsBlockedAt d at Failed = Unit {0}
IsBlockedAt d at Memory = Unit {0}
