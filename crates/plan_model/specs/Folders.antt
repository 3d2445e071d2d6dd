-- Which folders a plan makes, and which it takes off.
use Rattle.std.specs.Prelude.{◌≡◌, ◌⊎◌, ◌↔◌, ℕ, false, List}
use Rattle.std.specs.List.{Contains}
use Rattle.manifest_json.specs.Paths.{AreRising}
use Rattle.tree_fs.specs.declared.place.Root.TheVariants.{Game}
use Rattle.tree_fs.specs.Spot.{Spot, below, IsBelow}
use Rattle.tree_fs.specs.Places.{game_spot}
use Rattle.tree_fs.specs.Disk.{Disk, none}
use Rattle.tree_fs.specs.Calls.{IsFolder}
use Rattle.move_plan.specs.declared.plan.Plan.{Plan}
use Rattle.move_plan.specs.Places.{Has, IsDestination}
use Rattle.desk_model.specs.Outcome.{updated}

-- a missing parent of a destination
pub record IsMade (a : Disk) (plan : Plan) (s : Spot) : Type 0 where
  pub missing : a.folders s ≡ false
  pub place : Spot
  pub to : IsDestination plan place
  pub below : IsBelow s place

-- one of the own folders, if it is a folder still
pub record IsOwnFolder (a : Disk) (own : List (List ℕ)) (s : Spot) : Type 0 where
  pub path : List ℕ
  pub listed : Contains own path
  pub here : s ≡ game_spot path
  pub is_there : IsFolder a s

-- the own folders with those that the plan makes in `game`
abbrev pub IsListed : Disk → List (List ℕ) → Plan → Spot → Type 0
IsListed a own plan s = IsOwnFolder a own s ⊎ (s.root ≡ Game) × IsMade a plan s

-- one of them goes where, after saves, sets and clears, nothing is below it but such folders
pub record GoesOff (a : Disk) (own : List (List ℕ)) (plan : Plan) (s : Spot) : Type 0 where
  pub listed : IsListed a own plan s
  pub no_value : (x : Spot) → IsBelow s x → updated plan a.now x ≡ none
  pub no_folder : (x : Spot) → IsBelow s x → IsFolder a x ⊎ IsMade a plan x
      → IsListed a own plan x

-- the folders of a plan
pub record FoldersLaidOut (a : Disk) (own : List (List ℕ)) (plan : Plan) : Type 0 where
  pub made : (s : Spot) → (Has plan.folders s ↔ IsMade a plan s)
  pub off : (s : Spot) → (Has plan.folders_off s ↔ GoesOff a own plan s)

-- the new list of own folders: the listed ones that stay, in path order
pub record OwnLaidOut (a : Disk) (own : List (List ℕ)) (plan : Plan) (next : List (List ℕ)) : Type 0 where
  pub folders : (path : List ℕ)
      → (Contains next path
      ↔ IsListed a own plan (game_spot path) × (¬ GoesOff a own plan (game_spot path)))
  pub order : AreRising next

-- each entry of the folder holds nothing after the plan, and each that is or becomes a folder goes
-- itself
pub record EntriesGo (a : Disk) (own : List (List ℕ)) (plan : Plan) (s : Spot) : Type 0 where
  pub listed : IsListed a own plan s
  pub no_value : (name : List ℕ) → updated plan a.now (below s name) ≡ none
  pub goes : (name : List ℕ) → IsFolder a (below s name) ⊎ IsMade a plan (below s name)
      → GoesOff a own plan (below s name)
