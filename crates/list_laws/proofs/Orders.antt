-- What a comparison tells, in any total order, and of texts by their bytes.
use Rattle.std.proofs.Common.{◌≡◌, ◌≢◌, ◌⊎◌, ℕ, true, false, List, [], ◌∷◌, ◌++◌, nat_cmp, is_eq, is_lt, is_le, Ordering, Less, Equal, Greater, refl, sym, ap, subst, ◌∙◌, inl, inr, arith}
use Rattle.std.specs.Ordering.{ordering_reverse, ordering_then}
use Rattle.std.specs.Cmp.{IsTotalOrder}
use Rattle.std.specs.Cmp.Lexicographic.{slice_cmp, nat_list_cmp_total, texts_ties}
use Rattle.std.proofs.lemmas.Cmp.{tied_itself}
use Rattle.std.proofs.lemmas.Bool.Decides.{nat_tests}
use Rattle.std.proofs.lemmas.Slice.Eq.{bytes_eq-Decides}

-- Answers of comparisons

pub less-from_test : (o : Ordering) → is_lt o ≡ true → o ≡ Less
less-from_test Less h = refl
less-from_test Equal h = let never : ⊥ = cc in absurd never
less-from_test Greater h = let never : ⊥ = cc in absurd never

pub test-from_less : (o : Ordering) → o ≡ Less → is_lt o ≡ true
test-from_less o h = rw h

pub equal-from_test : (o : Ordering) → is_eq o ≡ true → o ≡ Equal
equal-from_test Equal h = refl
equal-from_test Less h = let never : ⊥ = cc in absurd never
equal-from_test Greater h = let never : ⊥ = cc in absurd never

pub not_turned : (o : Ordering) → o ≡ Less → ordering_reverse o ≡ Less → ⊥
not_turned Less e r = let no_way : Greater ≡ Less = r in cc
not_turned Equal e r = cc
not_turned Greater e r = cc

pub turned_above : (o : Ordering) → o ≡ Greater → is_lt (ordering_reverse o) ≡ true
turned_above o e = ap (λ p. is_lt (ordering_reverse p)) e

pub turned_not_above : (o : Ordering) → (o ≡ Greater → ⊥) → is_lt (ordering_reverse o) ≡ false
turned_not_above Less h = refl
turned_not_above Equal h = refl
turned_not_above Greater h = absurd (h refl)

pub turned_le : (o : Ordering) → is_le o ≡ true → is_lt (ordering_reverse o) ≡ false
turned_le Less h = refl
turned_le Equal h = refl
turned_le Greater h = let never : ⊥ = cc in absurd never

-- Any total order

module _ {K : Type 0} {c : K → K → Ordering} (total : IsTotalOrder c) where
  pub not_both : (a b : K) → c a b ≡ Less → c b a ≡ Less → ⊥
  not_both a b h k = not_turned (c b a) k (sym (total.antisymm a b) ∙ h)

  pub not_itself : (a : K) → c a a ≡ Less → ⊥
  not_itself a h = not_both a a h h

  pub less-apart : (a b : K) → c a b ≡ Less → a ≢ b
  less-apart a b h same = not_itself b (subst (λ x. c x b ≡ Less) same h)

  pub turned : (a b : K) → c a b ≡ Greater → c b a ≡ Less
  turned a b e = total.antisymm b a ∙ ap ordering_reverse e

  pub turned_less : (a b : K) → c a b ≡ Less → c b a ≡ Greater
  turned_less a b e = total.antisymm b a ∙ ap ordering_reverse e

  pub tie : (a b : K) → a ≡ b → c a b ≡ Equal
  tie a b e = ap (c a) (sym e) ∙ tied_itself total a

-- Numbers

pub nat_turned : (a b : ℕ) → nat_cmp a b ≡ Less → nat_cmp b a ≡ Greater
nat_turned a b h = grind (arith, nat_tests)

pub nat_tied : (a b : ℕ) → nat_cmp a b ≡ Equal → a ≡ b
nat_tied a b h = grind (arith, nat_tests)

-- Texts

pub text_not_both : (a b : List ℕ) → slice_cmp nat_cmp a b ≡ Less → slice_cmp nat_cmp b a ≡ Less → ⊥
text_not_both a b h k = not_both nat_list_cmp_total a b h k

pub text_not_itself : (a : List ℕ) → slice_cmp nat_cmp a a ≡ Less → ⊥
text_not_itself a h = not_itself nat_list_cmp_total a h

pub text_less-apart : (a b : List ℕ) → slice_cmp nat_cmp a b ≡ Less → a ≢ b
text_less-apart a b h = less-apart nat_list_cmp_total a b h

pub text_turned : (a b : List ℕ) → slice_cmp nat_cmp a b ≡ Greater → slice_cmp nat_cmp b a ≡ Less
text_turned a b e = turned nat_list_cmp_total a b e

pub text_tie : (a b : List ℕ) → a ≡ b → slice_cmp nat_cmp a b ≡ Equal
text_tie a b e = tie nat_list_cmp_total a b e

pub text_tied : (a b : List ℕ) → slice_cmp nat_cmp a b ≡ Equal → a ≡ b
text_tied a b e = (bytes_eq-Decides a b).0 (texts_ties a b ∙ ap is_eq e)

-- the same or below, both ways
pub text_at_most_both : (a b : List ℕ) → (a ≡ b) ⊎ (slice_cmp nat_cmp a b ≡ Less) → (b ≡ a) ⊎ (slice_cmp nat_cmp b a ≡ Less) → a ≡ b
text_at_most_both a b (inl e) k = e
text_at_most_both a b (inr h) (inl e) = sym e
text_at_most_both a b (inr h) (inr k) = absurd (text_not_both a b h k)

-- a text comes before one that goes on behind it
pub text_before_longer : (a : List ℕ) (b : ℕ) (bs : List ℕ) → slice_cmp nat_cmp a (a ++ b ∷ bs) ≡ Less
text_before_longer [] b bs = refl
text_before_longer (x ∷ xs) b bs = rw (cmp-itself x) (text_before_longer xs b bs)
  where
    cmp-itself : (n : ℕ) → nat_cmp n n ≡ Equal
    cmp-itself n = grind (arith, nat_tests)

-- what stands between a text and one that it begins, begins with it too
pub text_between : (t r p x : List ℕ) → slice_cmp nat_cmp t r ≡ Less → slice_cmp nat_cmp r p ≡ Less → p ≡ t ++ x → (y : List ℕ) × (r ≡ t ++ y)
text_between [] r p x h k e = (r, refl)
text_between (a ∷ t) [] p x h k e = let never : ⊥ = cc in absurd never
text_between (a ∷ t) (b ∷ r) [] x h k e = let never : ⊥ = cc in absurd never
text_between (a ∷ t) (b ∷ r) (c ∷ p) x h k e =
    let first : c ≡ a = cc in
    let rest : p ≡ t ++ x = cc in
    elim (nat_cmp a b) as (λ o. nat_cmp a b ≡ o → ordering_then o (slice_cmp nat_cmp t r) ≡ Less → (y : List ℕ) × (b ∷ r ≡ a ∷ t ++ y)) [
      | Less ↦ λ is g. let back : nat_cmp b a ≡ Greater = nat_turned a b is in
          let over : ordering_then (nat_cmp b c) (slice_cmp nat_cmp r p) ≡ Greater = rw (first, back) in
          let never : ⊥ = cc in absurd never
      | Equal ↦ λ is g.
          let same : a ≡ b = nat_tied a b is in
          let here : nat_cmp b c ≡ Equal = ap (λ n. nat_cmp b n) (first ∙ same) ∙ ap (λ n. nat_cmp n b) (sym same) ∙ is in
          let more : slice_cmp nat_cmp r p ≡ Less = ap (λ o. ordering_then o (slice_cmp nat_cmp r p)) (sym here) ∙ k in
          let found = text_between t r p x g more rest in
          (found.0, λ i. sym same i ∷ found.1 i)
      | Greater ↦ λ is g. let never : ⊥ = cc in absurd never
    ] refl h
