-- Lists gone through, from the front and from the end.
use Rattle.std.proofs.Common.{◌≡◌, ℕ, suc, ◌+◌, ◌-◌, ◌<◌, List, [], ◌∷◌, ◌++◌, Bool, true, false, cond, filter, length, get_or, take, drop, sym, ap, subst, ◌∙◌, arith}
use Rattle.std.specs.List.{Contains}
use Rattle.std.proofs.lemmas.List.{get_or_default, append-nil, drop_more}
use Rattle.std.proofs.lemmas.List.Elements.{filter-append, Contains-append_left}
use Rattle.list_laws.proofs.Containing.{contains_seam}
use Rattle.list_laws.proofs.Lists.{around, one_more}

module _ {X : Type 0} (xs : List X) (i : ℕ) (x : X) (low : i < length xs) (is : x ≡ get_or xs i x) where
  -- what is among the first items stays among them
  pub in_more : (y : X) → Contains (take i xs) y → Contains (take (i + 1) xs) y
  in_more y c = subst (λ l. Contains l y) (sym (one_more xs i x low is)) (Contains-append_left (take i xs) (x ∷ []) y c)

  pub in_last : Contains (take (i + 1) xs) x
  in_last = subst (λ l. Contains l x) (sym (one_more xs i x low is)) (contains_seam (take i xs) x [])

  filter_more : (p : X → Bool) → filter p (take (i + 1) xs) ≡ filter p (take i xs) ++ cond (p x) (x ∷ []) []
  filter_more p = ap (filter p) (one_more xs i x low is) ∙ filter-append p (take i xs) (x ∷ [])

  pub filter_then : (p : X → Bool) → p x ≡ true → filter p (take (i + 1) xs) ≡ filter p (take i xs) ++ x ∷ []
  filter_then p h = filter_more p ∙ ap (λ b. filter p (take i xs) ++ cond b (x ∷ []) []) h

  pub filter_else : (p : X → Bool) → p x ≡ false → filter p (take (i + 1) xs) ≡ filter p (take i xs)
  filter_else p h = filter_more p ∙ ap (λ b. filter p (take i xs) ++ cond b (x ∷ []) []) h ∙ append-nil (filter p (take i xs))

-- the node that is the next one from the end
module _ (nodes : List ℕ) (i : ℕ) (low : i < length nodes) where
  pub from_end : nodes ≡ take (length nodes - 1 - i) nodes ++ get_or nodes (length nodes - 1 - i) 0 ∷ drop (length nodes - i) nodes
  from_end =
      let k = length nodes - 1 - i in
      let below : k < length nodes = omega (arith, low) in
      let next : suc k ≡ length nodes - i = omega (arith, low) in
      let x = get_or nodes k 0 in
      subst (λ n. nodes ≡ take k nodes ++ x ∷ drop n nodes) next (around nodes k x below (get_or_default nodes k 0 x below))

  pub drop_from_end : drop (length nodes - (i + 1)) nodes ≡ get_or nodes (length nodes - 1 - i) 0 ∷ drop (length nodes - i) nodes
  drop_from_end =
      let k = length nodes - 1 - i in
      let same : length nodes - (i + 1) ≡ k = omega (arith, low) in
      let next : k + 1 ≡ length nodes - i = omega (arith, low) in
      ap (λ n. drop n nodes) same ∙ drop_more nodes k 0 (omega (arith, low)) ∙ ap (λ n. get_or nodes k 0 ∷ drop n nodes) next
