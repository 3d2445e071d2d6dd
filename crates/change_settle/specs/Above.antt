-- The folders above places, and what is found of them.
use Rattle.std.specs.Prelude.{◌≡◌, ◌≢◌, ◌⊎◌, ◌↔◌, ℕ, Bool, true, ◌&&◌, if◌then◌else◌, List, [], map, filter_map}
use Rattle.std.specs.List.{Contains}
use Rattle.std.specs.declared.option.Option.{Option}
use Rattle.std.specs.declared.option.Option.TheVariants.{None, Some}
use Rattle.tree_fs.specs.declared.name.Kind.TheVariants.{Absent, File, Other}
use Rattle.tree_fs.specs.declared.place.Place.{Place}
use Rattle.tree_fs.specs.declared.place.Root.{Root}
use Rattle.tree_fs.specs.declared.place.Root.TheVariants.{Game, Stage, Keep}
use Rattle.tree_fs.specs.Spot.{Spot, spot_of, IsBelow}
use Rattle.std.specs.Str.{bytes_eq}
use Rattle.tree_fs.specs.Texts.{place_text}
use Rattle.tree_fs.specs.Disk.{Disk, kind_of}
use Rattle.backup_keep.specs.Places.{aside_folder}
use Rattle.change_settle.specs.declared.error.SettleError.{SettleError}
use Rattle.change_settle.specs.declared.error.SettleError.TheVariants.{Blocked, AsideFull, Failed, Memory}

-- a folder above a place, other than its root
pub record IsFolderAbove (s x : Spot) : Type 0 where
  pub below : IsBelow s x
  pub some : s.names ≢ []

-- a folder above one of these
pub record IsAboveOne (places : List Spot) (s : Spot) : Type 0 where
  pub place : Spot
  pub among : Contains places place
  pub above : IsFolderAbove s place

-- the folders above the place come to these, and no others
abbrev pub AddsAbove : Spot → (old new : List Spot) → Type 0
AddsAbove x old new =
    (s : Spot) → (Contains new s ↔ Contains old s ⊎ IsFolderAbove s x)

-- just the folders above these
abbrev pub AreAbove : (places folders : List Spot) → Type 0
AreAbove places folders = (s : Spot) → (Contains folders s ↔ IsAboveOne places s)

-- a file or something odd
abbrev pub IsTaken : Disk → Spot → Type 0
IsTaken a x = (kind_of a x ≡ File) ⊎ (kind_of a x ≡ Other)

-- which of these are missing, and at which something else stands
pub record AreLooked (a : Disk) (folders lost taken : List Spot) : Type 0 where
  pub missing : (x : Spot) → (Contains lost x ↔ Contains folders x × (kind_of a x ≡ Absent))
  pub blocked : (x : Spot) → (Contains taken x ↔ Contains folders x × IsTaken a x)

-- none of these is above the place
abbrev pub NoneAbove : List Spot → Spot → Type 0
NoneAbove blocked x = (s : Spot) → Contains blocked s → ¬ IsFolderAbove s x

-- the outermost of these that is above the place, if one is
pub record IsOutermostOf (blocked : List Spot) (x s : Spot) : Type 0 where
  pub among : Contains blocked s
  pub above : IsFolderAbove s x
  pub outermost : NoneAbove blocked s

abbrev pub IsOutermostIn : List Spot → Spot → Option Place → Type 0
IsOutermostIn blocked x None = NoneAbove blocked x
IsOutermostIn blocked x (Some p) = IsOutermostOf blocked x (spot_of p)

-- the outermost of these is in the way, or memory ran out
abbrev pub IsBlockedBy : List Spot → Spot → SettleError → Type 0
IsBlockedBy blocked x (Blocked place) = IsOutermostOf blocked x (spot_of place)
IsBlockedBy blocked x AsideFull = ⊥
IsBlockedBy blocked x Failed = ⊥
IsBlockedBy blocked x Memory = Unit {0}

-- of the folders above a place these are the ones at which something else stands
abbrev pub TellsAbove : Disk → List Spot → Spot → Type 0
TellsAbove a blocked x = (s : Spot) → IsFolderAbove s x → (Contains blocked s ↔ IsTaken a s)

-- a folder above what is set aside, none where it is the aside folder, and that is there
abbrev pub new_aside : Bool → Place → Place → Option Place
new_aside is_there aside p =
    if is_there && bytes_eq (place_text p) (place_text aside) then None else Some p

-- a folder above what these saves set aside, other than the aside folder where that is there
pub record IsAsideAbove (is_there : Bool) (saves : List (Place × Place)) (s : Spot) : Type 0 where
  pub above : IsAboveOne (map (λ (v : Place × Place). spot_of v.1) saves) s
  pub new : is_there ≡ true → s ≢ aside_folder

-- all of these are folders above ones of the places
abbrev pub AreAllAbove : (places folders : List Spot) → Type 0
AreAllAbove places folders = (s : Spot) → Contains folders s → IsAboveOne places s

-- just the missing ones of the folders above these
abbrev pub AreMissingAbove : Disk → (places folders : List Spot) → Type 0
AreMissingAbove a places folders =
    (s : Spot) → (Contains folders s ↔ IsAboveOne places s × (kind_of a s ≡ Absent))

-- the path of a folder below the game folder, by its root
abbrev pub path_in : Root → Option (List ℕ) → Option (List ℕ)
path_in Game rel = rel
path_in Stage rel = None
path_in Keep rel = None

abbrev pub game_path : Place → Option (List ℕ)
game_path p = path_in p.root p.rel

abbrev pub game_paths : List Place → List (List ℕ)
game_paths places = filter_map game_path places
