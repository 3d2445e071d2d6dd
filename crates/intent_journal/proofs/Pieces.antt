-- Bytes that came part by part.
use Rattle.std.proofs.Common.{◌≡◌, ℕ, ◌+◌, ◌≤◌, List, ◌++◌, length, take, sym, ap, ◌∙◌}
use Rattle.tree_fs.specs.Parts.{IsPart}
use Rattle.tree_fs.proofs.Parts.{part-more}

-- a part that is within its bound is taken whole
pub one_part : (bytes done : List ℕ) (from most : ℕ) (read part : List ℕ) → IsPart bytes from most read → (length read ≤ most → part ≡ read)
    → done ≡ take from bytes → done ++ part ≡ take (from + length part) bytes
one_part bytes done from most read part is same h =
    let e = same is.fits in
    ap (λ l. l ++ part) h ∙ ap (λ l. take from bytes ++ l) e ∙ part-more bytes from most read is ∙ ap (λ l. take (from + length l) bytes) (sym e)
