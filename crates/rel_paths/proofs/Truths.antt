-- What tests of numbers, texts and pairs of tests tell, under the names that this crate used.
pub use Rattle.std.proofs.lemmas.Bool.{and_parts as both, and_from as joint, or_left as either_first, or_right as either_second, not_from_false as not_false}
pub use Rattle.std.proofs.lemmas.Bool.{not-true as false_from_not, ltb-false as not_above, le-leb as le_true, leb-true as true_le}
pub use mathlib.Core.Bool.{and-true as and_true}
pub use Rattle.list_laws.proofs.Truths.{some-from_test as some_bytes, test-from_some as not_zero}
pub use Rattle.list_laws.proofs.Texts.{longer_differs}
use Rattle.std.proofs.Common.{◌≡◌, ◌≤◌, ℕ, nat_lt, false, le-ltb}

pub not_below : (most n : ℕ) → n ≤ most → nat_lt most n ≡ false
not_below most n h = le-ltb most n h
