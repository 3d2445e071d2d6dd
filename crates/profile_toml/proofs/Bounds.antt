-- Bounds as tests.
use Rattle.std.proofs.Common.{◌≡◌, ◌≤◌, ◌<◌, ℕ, Bool, true, false, nat_le, max, refl, sym, ◌∙◌, arith}
use Rattle.std.proofs.lemmas.Bool.Decides.{nat_tests}

pub max_within : (a b n : ℕ) → nat_le a n ≡ true → nat_le (max a b) n ≡ nat_le b n
max_within a b n h = grind (arith, nat_tests)

pub max_beyond : (a b n : ℕ) → nat_le a n ≡ false → nat_le (max a b) n ≡ false
max_beyond a b n h = grind (arith, nat_tests)
