-- Items of a list.
use Rattle.std.proofs.Common.{◌≡◌, ℕ, ◌<◌, List, length, get_or, subst}

-- of a list that another name has
pub in_named : {X : Type 0} (rows xs : List X) → rows ≡ xs → (i : ℕ) (x : X) → i < length rows → x ≡ get_or rows i x → (i < length xs) × (x ≡ get_or xs i x)
in_named rows xs same i x lt is = (subst (λ l. i < length l) same lt, subst (λ l. x ≡ get_or l i x) same is)
