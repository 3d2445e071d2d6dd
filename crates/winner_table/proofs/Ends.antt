-- A merge that takes its items from the ends of the turned lists.
use Rattle.std.proofs.Common.{◌≡◌, ℕ, suc, ◌+◌, List, [], ◌∷◌, ◌++◌, Bool, true, false, length, get_or, take, reverse, sym, ap, ◌∙◌, arith, append_assoc, take-suc, take_all}
use Rattle.std.proofs.lemmas.List.{nil_from_length}
use Rattle.list_laws.proofs.Lists.{reverse_push, reverse_read}
use Rattle.winner_table.specs.Steps.{merge}
use Rattle.winner_table.proofs.Sorting.{merge_first, merge_second, merge_none}

pub top_taken : {X : Type 0} (xs ps : List X) (p : X) → xs ≡ ps ++ p ∷ [] → reverse xs ≡ p ∷ reverse ps
top_taken xs ps p e = ap reverse e ∙ reverse_push ps p

module _ {X : Type 0} (lt : X → X → Bool) (a b : List X) where
  -- x is read at the end of a, y at the end of b, and q is taken from there
  pub take_second : (b' : List X) (x y q : X) (m n : ℕ) → length a ≡ m + 1 → x ≡ get_or a m x → length b ≡ n + 1 → y ≡ get_or b n y → b ≡ b' ++ q ∷ [] → lt y x ≡ true
      → merge lt (reverse a) (reverse b) ≡ q ∷ merge lt (reverse a) (reverse b')
  take_second b' x y q m n long_a is_x long_b is_y was below =
      let ra = reverse_read a m x long_a is_x in
      let rb = reverse_read b n y long_b is_y in
      let rt = top_taken b b' q was in
      let same : y ≡ q = cc in
      let rest : reverse (take n b) ≡ reverse b' = cc in
      (λ i. merge lt (ra i) (rb i)) ∙ merge_second lt x (reverse (take m a)) y (reverse (take n b)) below ∙ (λ i. same i ∷ merge lt (sym ra i) (rest i))

  pub take_first : (a' : List X) (x y q : X) (m n : ℕ) → length a ≡ m + 1 → x ≡ get_or a m x → length b ≡ n + 1 → y ≡ get_or b n y → a ≡ a' ++ q ∷ [] → lt y x ≡ false
      → merge lt (reverse a) (reverse b) ≡ q ∷ merge lt (reverse a') (reverse b)
  take_first a' x y q m n long_a is_x long_b is_y was below =
      let ra = reverse_read a m x long_a is_x in
      let rb = reverse_read b n y long_b is_y in
      let rt = top_taken a a' q was in
      let same : x ≡ q = cc in
      let rest : reverse (take m a) ≡ reverse a' = cc in
      (λ i. merge lt (ra i) (rb i)) ∙ merge_first lt x (reverse (take m a)) y (reverse (take n b)) below ∙ (λ i. same i ∷ merge lt (rest i) (sym rb i))

  pub take_rest : (a' : List X) (q : X) → length b ≡ 0 → a ≡ a' ++ q ∷ [] → merge lt (reverse a) (reverse b) ≡ q ∷ merge lt (reverse a') (reverse b)
  take_rest a' q empty was =
      let none : reverse b ≡ [] = ap reverse (nil_from_length b empty) in
      ap (merge lt (reverse a)) none ∙ merge_none lt (reverse a) ∙ top_taken a a' q was ∙ ap (λ l. q ∷ l) (sym (ap (merge lt (reverse a')) none ∙ merge_none lt (reverse a')))
