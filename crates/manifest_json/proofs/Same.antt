-- Texts are equal just where their comparison says so, and lists where their items are.
use Rattle.std.proofs.Common.{◌≡◌, ℕ, eqb, List, refl}
use Rattle.std.specs.Cmp.Lexicographic.{pointwise}
use Rattle.std.specs.Bool.{Decides}
use Rattle.std.proofs.lemmas.Bool.Decides.{Decides-eqb}
use Rattle.std.proofs.lemmas.Slice.Eq.{slice_eq-Decides}

pub texts : (p q : List ℕ) → Decides (pointwise eqb p q) (p ≡ q)
texts p q = slice_eq-Decides Decides-eqb p q _ refl
