-- What was found of the folders above the paths of a walk.
use Rattle.std.specs.Prelude.{◌≡◌, ◌⊎◌, ℕ, false, List, map}
use Rattle.std.specs.List.{AllByRecursion, Contains}
use Rattle.tree_fs.specs.declared.name.Kind.TheVariants.{Absent, Folder}
use Rattle.tree_fs.specs.Spot.{Spot, IsBelow}
use Rattle.tree_fs.specs.Places.{game_spot}
use Rattle.tree_fs.specs.Disk.{Disk, kind_of}
use Rattle.plan_model.specs.Rows.{IsFolderOrAbsent}
use Rattle.deploy_plan.specs.declared.error.PlanError.{PlanError}
use Rattle.deploy_plan.specs.declared.parents.Seen.{Seen}
use Rattle.deploy_plan.specs.declared.parents.Parents.{Parents}
use Rattle.deploy_plan.specs.Refusals.{Obstacle, blocked, backup_taken, HasOpenParents}
use Rattle.deploy_plan.specs.Steps.{Refused}

-- the place itself, or a folder above it
abbrev pub IsAtOrAbove : Spot → Spot → Type 0
IsAtOrAbove s x = (s ≡ x) ⊎ IsBelow s x

-- the place and those above it are folders, or can be made
abbrev pub IsOpenUpTo : Disk → Spot → Type 0
IsOpenUpTo a x = (s : Spot) → IsAtOrAbove s x → IsFolderOrAbsent a s

-- it is noted as missing
abbrev pub IsNoted : List (List ℕ) → Spot → Type 0
IsNoted missing s = Contains (map game_spot missing) s

-- what is missing of a place and those above it is noted
abbrev pub IsNotedUpTo : Disk → List (List ℕ) → Spot → Type 0
IsNotedUpTo a missing x = (s : Spot) → IsAtOrAbove s x → a.folders s ≡ false → IsNoted missing s

-- what was seen of a folder is so
pub record IsSeen (a : Disk) (missing : List (List ℕ)) (seen : Seen) : Type 0 where
  pub is_open : IsOpenUpTo a (game_spot seen.path)
  pub is : seen.is_there ≡ a.folders (game_spot seen.path)
  pub noted : IsNotedUpTo a missing (game_spot seen.path)

abbrev pub AreSeen : Disk → Parents → Type 0
AreSeen a parents = AllByRecursion (IsSeen a parents.missing.items) parents.above.items

-- a place and those above it were looked at: they are folders, or can be made, and those that are
-- missing are noted, and no others
pub record LooksUpTo (a : Disk) (x : Spot) (old new : Parents) : Type 0 where
  pub is_open : IsOpenUpTo a x
  pub seen : AreSeen a new
  pub noted : IsNotedUpTo a new.missing.items x
  pub keeps : (s : Spot) → IsNoted old.missing.items s → IsNoted new.missing.items s
  pub only : (s : Spot) → IsNoted new.missing.items s
      → IsNoted old.missing.items s ⊎ (a.folders s ≡ false) × IsAtOrAbove s x

-- a file or something odd in the place of a folder, the outermost such
pub record IsInTheWay (a : Disk) (x s : Spot) : Type 0 where
  pub at : IsAtOrAbove s x
  pub taken : (kind_of a s ≡ Absent → ⊥) × (kind_of a s ≡ Folder → ⊥)
  pub outermost : HasOpenParents a s

abbrev pub BlocksUpTo : Disk → Spot → Obstacle → Type 0
BlocksUpTo a x (blocked s) = IsInTheWay a x s
BlocksUpTo a x (backup_taken path) = ⊥

abbrev pub IsBlockedUpTo : Disk → Spot → PlanError → Type 0
IsBlockedUpTo a x = Refused (BlocksUpTo a x)
