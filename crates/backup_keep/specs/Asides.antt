-- The numbers below the aside folder.
use Rattle.std.specs.Prelude.{◌≡◌, ◌≢◌, ◌⊎◌, ℕ, ◌+◌, ◌≤◌, ◌<◌, List}
use Rattle.std.specs.List.{Contains}
use Rattle.std.specs.Fmt.{decimal}
use Rattle.tree_fs.specs.declared.name.Kind.TheVariants.{Absent, Folder}
use Rattle.tree_fs.specs.Spot.{below}
use Rattle.tree_fs.specs.Disk.{Disk, kind_of}
use Rattle.backup_keep.specs.Places.{aside_folder}

-- a number that may stand there
abbrev pub IsAsideNumber : ℕ → Type 0
IsAsideNumber n = (1 ≤ n) × (n ≤ 4294967295)

-- something stands below the aside folder under this number
abbrev pub HasAside : Disk → ℕ → Type 0
HasAside d n = IsAsideNumber n × (kind_of d (below aside_folder (decimal n)) ≢ Absent)

-- one more than the greatest number there, or 1
pub record IsNextAside (d : Disk) (n : ℕ) : Type 0 where
  pub above : (k : ℕ) → HasAside d k → k < n
  pub least : (n ≡ 1) ⊎ ((k : ℕ) × HasAside d k × (n ≡ k + 1))

-- the aside folder is there, or can be made
abbrev pub IsAsideOpen : Disk → Type 0
IsAsideOpen d = (kind_of d aside_folder ≡ Absent) ⊎ (kind_of d aside_folder ≡ Folder)

-- the greatest number among these names, or 0 where there is none
pub record IsGreatest (names : List (List ℕ)) (n : ℕ) : Type 0 where
  pub above : (k : ℕ) → IsAsideNumber k → Contains names (decimal k) → k ≤ n
  pub among : (n ≡ 0) ⊎ (IsAsideNumber n × Contains names (decimal n))
