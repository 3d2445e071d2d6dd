-- Which folders a command makes, and which it takes off.
use Rattle.std.specs.Prelude.{◌≡◌, ◌⊎◌, ◌↔◌, ℕ, false, List}
use Rattle.std.specs.List.{Contains}
use Rattle.std.specs.List.Sorted.{IsStrictlySortedBy}
use Rattle.std.specs.Ordering.{nat_cmp}
use Rattle.std.specs.Cmp.Lexicographic.{slice_cmp}
use Rattle.std.specs.declared.option.Option.{Option}
use Rattle.std.specs.declared.option.Option.TheVariants.{None, Some}
use Rattle.rel_paths.specs.Names.{names_of}
use Rattle.tree_fs.specs.declared.place.Root.{Root}
use Rattle.tree_fs.specs.declared.place.Root.TheVariants.{Stage, Game, Keep}
use Rattle.tree_fs.specs.Spot.{Spot, IsBelow}
use Rattle.tree_fs.specs.Places.{game_spot}
use Rattle.tree_fs.specs.Disk.{Disk, Value, none, file}
use Rattle.tree_fs.specs.Calls.{IsFolder}
use Rattle.manifest_json.specs.declared.manifest.Row.{Row}
use Rattle.desk_model.specs.Places.{Names, IsUsers}
use Rattle.desk_model.specs.Records.{rows_of, own_of, row_at, row_behind, manifest_of}
use Rattle.desk_model.specs.Desk.{Desk}

-- what lies at a game path: at a row's path the file found there, at the backup place of a shadowed
-- row the plain file of its path, elsewhere the plain file
abbrev pub lies_in_game : Desk → Names → Option Row → Option Row → Value
lies_in_game k p (Some r) shadow = k.found p
lies_in_game k p None (Some shadow) = k.plain (names_of shadow.path)
lies_in_game k p None None = k.plain p

abbrev pub lies_by : Desk → Root → Names → Value
lies_by k Stage p = k.staged p
lies_by k Game p =
    lies_in_game k p (row_at (rows_of k.manifest) p) (row_behind (rows_of k.manifest) p)
lies_by k Keep p = none

-- what of a desk lies at a place of `game` or `stage`
abbrev pub lies : Desk → Spot → Value
lies k x = lies_by k x.root x.names

-- a missing folder above a file of the new desk
pub record IsNeeded (a : Disk) (new : Desk) (s : Spot) : Type 0 where
  pub missing : a.folders s ≡ false
  pub place : Spot
  pub below : IsBelow s place
  pub number : ℕ
  pub there : lies new place ≡ file number

-- a folder that the manifest lists as its own
pub record IsOwn (a : Disk) (s : Spot) : Type 0 where
  pub path : List ℕ
  pub listed : Contains (own_of (manifest_of a)) path
  pub here : s ≡ game_spot path
  pub is_there : IsFolder a s

-- the own folders with those that are needed in `game`
abbrev pub IsOwnOrNeeded : Disk → Desk → Spot → Type 0
IsOwnOrNeeded a new s = IsOwn a s ⊎ (s.root ≡ Game) × IsNeeded a new s

-- one of these goes where the new desk has nothing below it but others of them
pub record Goes (a : Disk) (new : Desk) (s : Spot) : Type 0 where
  pub own : IsOwnOrNeeded a new s
  pub no_value : (x : Spot) → IsBelow s x → lies new x ≡ none
  pub no_folder : (x : Spot) → IsBelow s x → IsFolder a x ⊎ IsNeeded a new x
      → IsOwnOrNeeded a new x

-- the new folders: those of before and those that are needed, without those that go
abbrev pub FolderRule : Disk → Desk → Type 0
FolderRule a new =
    (s : Spot) → (new.folders s
    ↔ IsUsers s.root × (IsFolder a s ⊎ IsNeeded a new s) × (¬ Goes a new s))

-- the new list of own folders: the old ones and those that are needed in `game`, without those that
-- go, in path order
pub record OwnRule (a : Disk) (new : Desk) : Type 0 where
  pub folders : (path : List ℕ)
      → (Contains (own_of new.manifest) path
      ↔ IsOwnOrNeeded a new (game_spot path) × (¬ Goes a new (game_spot path)))
  pub order : IsStrictlySortedBy (slice_cmp nat_cmp) (own_of new.manifest)
