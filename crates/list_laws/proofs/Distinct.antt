-- Lists whose items differ.
use Rattle.std.proofs.Common.{◌≡◌, Bool, false, ◌||◌, cond, List, [], ◌∷◌, ◌++◌, Ordering, IsSorted, refl, ap, subst, ◌∙◌}
use Rattle.std.specs.List.{AllByRecursion, IsDistinct, list_any, dedup, dedup_from}
use Rattle.std.specs.List.Sorted.{IsStrictlySortedBy}
use Rattle.std.specs.Cmp.{IsTotalOrder}
use Rattle.std.specs.Ordering.{eq_by_cmp}
use Rattle.std.proofs.lemmas.List.Kept.{IsStrictlySortedBy-dedup}
use Rattle.list_laws.proofs.Alls.{all_left, all_middle, all_more}

module _ {K : Type 0} (e : K → K → Bool) where
  -- one item more at the end
  pub distinct_more : (xs : List K) (x : K) → IsDistinct e xs → AllByRecursion (λ y. e y x ≡ false) xs → IsDistinct e (xs ++ x ∷ [])
  unfolding IsDistinct
  distinct_more [] x s a = (tt, tt)
  distinct_more (y ∷ ys) x s a = (all_more (λ z. e y z ≡ false) ys x s.0 a.0, distinct_more ys x s.1 a.1)

  pub distinct_left : (xs ys : List K) → IsDistinct e (xs ++ ys) → IsDistinct e xs
  unfolding IsDistinct
  distinct_left [] ys s = tt
  distinct_left (x ∷ xs) ys s = (all_left (λ z. e x z ≡ false) xs ys s.0, distinct_left xs ys s.1)

  pub distinct_right : (xs ys : List K) → IsDistinct e (xs ++ ys) → IsDistinct e ys
  unfolding IsDistinct
  distinct_right [] ys s = s
  distinct_right (x ∷ xs) ys s = distinct_right xs ys s.1

  pub distinct_one : (x : K) → IsDistinct e (x ∷ [])
  unfolding IsDistinct
  distinct_one x = (tt, tt)

module _ {K : Type 0} (e : K → K → Bool) (flips : (x y : K) → e x y ≡ e y x) where
  -- a later item isn't found among the earlier ones
  pub not_earlier : (xs : List K) (x : K) (rest : List K) → IsDistinct e (xs ++ x ∷ rest) → list_any (e x) xs ≡ false
  unfolding IsDistinct
  not_earlier [] x rest h = refl
  not_earlier (y ∷ ys) x rest h =
      let other : e x y ≡ false = flips x y ∙ all_middle (λ z. e y z ≡ false) ys x rest h.0 in
      ap (λ b. b || list_any (e x) ys) other ∙ not_earlier ys x rest h.1

  dedup_from-distinct : (k : K) (xs : List K) → IsDistinct e (k ∷ xs) → dedup_from e k xs ≡ k ∷ xs
  unfolding IsDistinct
  dedup_from-distinct k [] h = refl
  dedup_from-distinct k (x ∷ xs) h = ap (λ b. cond b (dedup_from e k xs) (k ∷ dedup_from e x xs)) (flips x k ∙ h.0.0) ∙ ap (λ l. k ∷ l) (dedup_from-distinct x xs h.1)

  -- nothing falls out of a list whose items differ
  pub dedup-distinct : (xs : List K) → IsDistinct e xs → dedup e xs ≡ xs
  dedup-distinct [] h = refl
  dedup-distinct (x ∷ xs) h = dedup_from-distinct x xs h

-- items that differ, in order, are in strict order
pub strictly_sorted : {K : Type 0} {c : K → K → Ordering} (total : IsTotalOrder c) (e : K → K → Bool) → ((x y : K) → e x y ≡ e y x) → ((x y : K) → e x y ≡ eq_by_cmp c x y) → (xs : List K) → IsDistinct e xs → IsSorted c xs → IsStrictlySortedBy c xs
strictly_sorted {c} total e flips ties xs differ sorted =
    subst (IsStrictlySortedBy c) (dedup-distinct e flips xs differ) (IsStrictlySortedBy-dedup total ties xs sorted)
