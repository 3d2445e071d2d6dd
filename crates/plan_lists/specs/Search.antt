-- What is looked up in lists of paths.
use Rattle.std.specs.Prelude.{ℕ, List}
use Rattle.std.specs.List.Sorted.{IsStrictlySortedBy}
use Rattle.std.specs.Ordering.{nat_cmp}
use Rattle.std.specs.Cmp.Lexicographic.{slice_cmp}
use Rattle.std.specs.declared.cmp.Ordering.{Ordering}

-- the order of two texts, turned
abbrev pub turned_cmp : List ℕ → List ℕ → Ordering
turned_cmp a b = slice_cmp nat_cmp b a

-- each path is below those in front of it
abbrev pub AreFalling : List (List ℕ) → Type 0
AreFalling = IsStrictlySortedBy turned_cmp
