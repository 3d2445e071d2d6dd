-- Paths of files: which are taken, and their order.
use Rattle.std.specs.Prelude.{◌↔◌, ℕ, List}
use Rattle.std.specs.List.{AllByRecursion, Contains}
use Rattle.std.specs.List.Sorted.{IsStrictlySortedBy}
use Rattle.std.specs.Ordering.{nat_cmp}
use Rattle.std.specs.Cmp.Lexicographic.{slice_cmp}
use Rattle.rel_paths.specs.Names.{IsFreePath}

-- ascending by the bytes of the texts, each once
abbrev pub AreInPathOrder : List (List ℕ) → Type 0
AreInPathOrder = IsStrictlySortedBy (slice_cmp nat_cmp)

-- what a list of files keeps
pub record AreFilePaths (paths : List (List ℕ)) : Type 0 where
  pub order : AreInPathOrder paths
  pub free : AllByRecursion IsFreePath paths

-- the one has just the paths of the other
abbrev pub HasSamePaths : List (List ℕ) → List (List ℕ) → Type 0
HasSamePaths paths others = (path : List ℕ) → Contains others path ↔ Contains paths path
