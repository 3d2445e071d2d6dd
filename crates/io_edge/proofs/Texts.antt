use Rattle.std.proofs.Common.{◌≡◌, Bool, true, false, List, ℕ, refl}
use Rattle.std.specs.Str.{is_utf8, IsUtf8}
use Rattle.std.proofs.lemmas.Str.{IsUtf8-from_is_utf8}

not_utf8 : (bytes : List ℕ) (test : Bool) → is_utf8 bytes ≡ test → ¬ (IsUtf8 bytes) → test ≡ false
not_utf8 bytes true is bad = absurd (bad (IsUtf8-from_is_utf8 bytes is))
not_utf8 bytes false is bad = refl

pub is_utf8-by_not : (bytes : List ℕ) → ¬ (IsUtf8 bytes) → is_utf8 bytes ≡ false
is_utf8-by_not bytes bad = not_utf8 bytes (is_utf8 bytes) refl bad
