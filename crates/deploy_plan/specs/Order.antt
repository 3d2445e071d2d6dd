-- The lists of a plan, before they are in its order.
use Rattle.std.specs.Prelude.{◌↔◌, ℕ, List}
use Rattle.std.specs.List.{Contains}
use Rattle.std.specs.List.Sorted.{IsStrictlySortedBy}
use Rattle.std.specs.Ordering.{nat_cmp}
use Rattle.std.specs.Cmp.Lexicographic.{slice_cmp}
use Rattle.tree_fs.specs.declared.place.Place.{Place}
use Rattle.tree_fs.specs.Spot.{Spot, spot_of}

-- a save that stands with its destination first, turned
abbrev pub turned : Place × Place → Place × Place
turned s = (s.1, s.0)

-- its ends
abbrev pub turned_ends : Place × Place → Spot × Spot
turned_ends s = (spot_of s.1, spot_of s.0)

-- paths that ascend by the bytes of their texts, each once
abbrev pub PathsRise : List (List ℕ) → Type 0
PathsRise = IsStrictlySortedBy (slice_cmp nat_cmp)

-- the one has just the ends of the other
abbrev pub HasSameEnds : List (Spot × Spot) → List (Spot × Spot) → Type 0
HasSameEnds saves others = (y : Spot × Spot) → Contains saves y ↔ Contains others y
