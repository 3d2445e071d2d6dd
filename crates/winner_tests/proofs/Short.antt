-- Lists of at most one override.
use Rattle.std.proofs.Common.{◌<◌, List, [], ◌∷◌, length, map, nat_eq, arith}
use Rattle.std.specs.List.{IsDistinct}
use Rattle.std.specs.Cmp.Lexicographic.{pointwise}
use Rattle.profile_toml.specs.Records.{OverrideData}

pub distinct_short : (overrides : List OverrideData) → length overrides < 2 → IsDistinct (pointwise nat_eq) (map (λ (entry : OverrideData). entry.path) overrides)
unfolding IsDistinct
distinct_short [] few = tt
distinct_short (x ∷ []) few = (tt, tt)
distinct_short (x ∷ y ∷ rest) few = absurd (omega arith)
