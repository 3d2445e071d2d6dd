-- Why a purge has no plan: the first reason, in their order.
use Rattle.std.specs.Prelude.{◌≡◌, ◌⊎◌, true, if◌then◌else◌, List, [], ◌∷◌, find, flat_map}
use Rattle.std.specs.List.{Contains}
use Rattle.std.specs.declared.option.Option.{Option}
use Rattle.std.specs.declared.option.Option.TheVariants.{None, Some}
use Rattle.tree_fs.specs.declared.name.Kind.TheVariants.{File, Other}
use Rattle.tree_fs.specs.Spot.{Spot, spot_of}
use Rattle.tree_fs.specs.Places.{game_spot}
use Rattle.tree_fs.specs.Disk.{Disk, kind_of}
use Rattle.backup_keep.specs.Places.{backup_spot, aside_folder}
use Rattle.backup_keep.specs.Asides.{HasAside, IsAsideOpen}
use Rattle.manifest_json.specs.declared.manifest.Row.{Row}
use Rattle.change_detect.specs.Refusals.{is_blocking}
use Rattle.desk_model.specs.Purged.{stands_over}
use Rattle.purge_run.specs.declared.error.PurgeError.{PurgeError}
use Rattle.purge_run.specs.declared.error.PurgeError.TheVariants.{Blocked, AsideFull, Failed, Memory}

-- the places of a row where a file may stand: the game place, and its backup where it is shadowed
abbrev pub places_of_row : Row → List Spot
places_of_row r =
    if r.shadowed then game_spot r.path ∷ backup_spot r.path ∷ [] else game_spot r.path ∷ []

-- the first of them, in the order of the rows, at which a folder or something odd stands
abbrev pub first_in_the_way : Disk → List Row → Option Spot
first_in_the_way a rows = find (λ x. is_blocking (kind_of a x)) (flat_map places_of_row rows)

-- a file is to be set aside
pub record SetsSomeAside (a : Disk) (rows : List Row) : Type 0 where
  pub row : Row
  pub listed : Contains rows row
  pub over : stands_over a row ≡ true

-- the aside folder is there or can be made, and its last number isn't taken
pub record HasAsideRoom (a : Disk) : Type 0 where
  pub may_be_made : IsAsideOpen a
  pub room : ¬ HasAside a 4294967295

-- nothing refuses the plan
pub record NoRefusal (a : Disk) (rows : List Row) : Type 0 where
  pub unblocked : first_in_the_way a rows ≡ None
  pub aside : SetsSomeAside a rows → HasAsideRoom a

-- an answer that is no fault of the tree and no want of memory
abbrev pub IsRefusal : PurgeError → Type 0
IsRefusal (Blocked place) = Unit {0}
IsRefusal AsideFull = Unit {0}
IsRefusal Failed = ⊥
IsRefusal Memory = ⊥

-- the first reason, with what it carries
abbrev pub IsPurgeRefusal : Disk → List Row → PurgeError → Type 0
IsPurgeRefusal a rows (Blocked place) =
    (first_in_the_way a rows ≡ Some (spot_of place))
    ⊎ (first_in_the_way a rows ≡ None) × SetsSomeAside a rows × (spot_of place ≡ aside_folder)
    × ((kind_of a aside_folder ≡ File) ⊎ (kind_of a aside_folder ≡ Other))
IsPurgeRefusal a rows AsideFull =
    (first_in_the_way a rows ≡ None) × SetsSomeAside a rows × IsAsideOpen a × HasAside a 4294967295
IsPurgeRefusal a rows Failed = Unit {0}
IsPurgeRefusal a rows Memory = Unit {0}
