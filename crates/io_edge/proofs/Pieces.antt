use Rattle.std.proofs.Common.{◌≡◌, ℕ, ◌+◌, ◌-◌, List, ◌++◌, length, take, drop, take-add, sym, ap, ◌∙◌, append_assoc}
use Rattle.std.proofs.lemmas.List.{take-append-drop, take_rest, drop-drop}

-- a piece off the front of what is left, and the rest
pub piece_and_rest : (at n : ℕ) (bytes left piece : List ℕ) → drop at bytes ≡ left → piece ≡ take n (take (length bytes - at) (drop at bytes)) → left ≡ piece ++ drop (at + n) bytes
piece_and_rest at n bytes left piece before given =
    rw (← before, given, take_rest, ← drop-drop) (sym (take-append-drop n (drop at bytes)))

-- one more piece of the bytes after those that were written
pub one_more_piece : (done n : ℕ) (old mid new bytes : List ℕ) → mid ≡ old ++ take done bytes → new ≡ mid ++ take n (take (length bytes - done) (drop done bytes)) → new ≡ old ++ take (done + n) bytes
one_more_piece done n old mid new bytes before more =
    more ∙ ap (λ x. mid ++ take n x) (take_rest bytes done) ∙ ap (λ x. x ++ take n (drop done bytes)) before ∙ append_assoc old (take done bytes) (take n (drop done bytes)) ∙ ap (λ x. old ++ x) (sym (take-add done n bytes))
