-- Paths of a manifest: their order, and that none extends another.
use Rattle.std.specs.Prelude.{◌≡◌, ℕ, Bool, true, false, not, ◌&&◌, List, [], ◌∷◌, is_none}
use Rattle.std.specs.List.{AllByRecursion}
use Rattle.std.specs.List.Sorted.{IsStrictlySortedBy}
use Rattle.std.specs.Ordering.{nat_cmp, is_lt}
use Rattle.std.specs.Cmp.Lexicographic.{slice_cmp}
use Rattle.rel_paths.specs.Names.{names_of, is_reserved, path_fault, id_fault, user_limits, extends}

-- whether it is a user path that isn't reserved
abbrev pub is_free_path : List ℕ → Bool
is_free_path path = is_none (path_fault user_limits path) && not (is_reserved (names_of path))

abbrev pub is_mod_id : List ℕ → Bool
is_mod_id text = is_none (id_fault text)

-- whether the path is above the first of these, which stand in front of it, the last one first
abbrev pub is_above : List (List ℕ) → List ℕ → Bool
is_above [] path = true
is_above (p ∷ ps) path = is_lt (slice_cmp nat_cmp p path)

-- each path is above those in front of it
abbrev pub AreRising : List (List ℕ) → Type 0
AreRising = IsStrictlySortedBy (slice_cmp nat_cmp)

-- no path extends one in front of it. Of rising paths none extends a later one either
abbrev pub AreFlat : List (List ℕ) → Type 0
AreFlat [] = Unit {0}
AreFlat (p ∷ ps) = AllByRecursion (λ q. extends q p ≡ false) ps × AreFlat ps
