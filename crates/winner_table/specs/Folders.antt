-- Paths that would be files and folders at once.
use Rattle.std.specs.Prelude.{◌≡◌, ◌≢◌, ℕ, ◌<◌, ◌≤◌, true, List, length, take, drop, slice_index_or as get_or}
use Rattle.std.specs.List.{AllByRecursion, Contains}
use Rattle.std.specs.Ordering.{nat_cmp}
use Rattle.std.specs.Cmp.Lexicographic.{slice_cmp}
use Rattle.std.specs.declared.cmp.Ordering.TheVariants.{Less}
use Rattle.rel_paths.specs.Names.{extends}
use Rattle.stage_scan.specs.declared.scan.Scan.{Scan}
use Rattle.winner_table.specs.declared.error.WinError.{WinError}
use Rattle.winner_table.specs.declared.error.WinError.TheVariants.{FileAndFolder, Memory}
use Rattle.winner_table.specs.declared.wins.WinRow.{WinRow}
use Rattle.winner_table.specs.Winners.{IsProvided, paths_of}

-- another of the paths lies below this one
pub record IsFolderOf (paths : List (List ℕ)) (path : List ℕ) : Type 0 where
  pub below : List ℕ
  pub among : Contains paths below
  pub extending : extends below path ≡ true

-- none of the paths lies below another
abbrev pub AreApart : List (List ℕ) → Type 0
AreApart paths = (path : List ℕ) → Contains paths path → IsFolderOf paths path → ⊥

-- the least of the paths that another lies below
pub record IsLeastFolder (scans : List Scan) (order path : List ℕ) : Type 0 where
  pub provided : IsProvided scans order path
  pub below : List ℕ
  pub provided_below : IsProvided scans order below
  pub extending : extends below path ≡ true
  pub least : (other more : List ℕ) → IsProvided scans order other → IsProvided scans order more
      → extends more other ≡ true → slice_cmp nat_cmp other path ≢ Less

-- why there are no winners
abbrev pub IsWinError : List Scan → List ℕ → WinError → Type 0
IsWinError scans order (FileAndFolder path) = IsLeastFolder scans order path
IsWinError scans order Memory = Unit {0}

-- the index of the first row below whose path another's lies
pub record IsFirstFolder (rows : List WinRow) (index : ℕ) : Type 0 where
  pub row : WinRow
  pub within : index < length rows
  pub is : row ≡ get_or rows index row
  pub folder : IsFolderOf (paths_of rows) row.path
  pub before : AllByRecursion (λ other. IsFolderOf (paths_of rows) other.path → ⊥) (take index rows)

-- the paths before the index are below the text, and those from it on aren't
pub record IsFirstNotBelow (text : List ℕ) (paths : List (List ℕ)) (index : ℕ) : Type 0 where
  pub within : index ≤ length paths
  pub below : AllByRecursion (λ path. slice_cmp nat_cmp path text ≡ Less) (take index paths)
  pub not_below : AllByRecursion (λ path. slice_cmp nat_cmp path text ≢ Less) (drop index paths)
