-- What a comparison of two items tells.
use Rattle.std.proofs.Common.{◌≡◌, ℕ, List, true, false, sym, refl, ap, ◌∙◌, is_lt, Ordering, Less, Equal, Greater}
use Rattle.std.specs.Cmp.{IsStrictWeakOrder}
use Rattle.std.specs.Ordering.{ordering_reverse}
use Rattle.std.proofs.lemmas.Cmp.{nat_list_cmp_total}
use Rattle.std.proofs.lemmas.List.Sorted.{ranks_by}
use Rattle.list_laws.proofs.Orders.{turned_above, turned_not_above}
use Rattle.winner_table.specs.Merged.{key_cmp, is_below}

module _ {X : Type 0} where
  pub keys_rank : (key : X → List ℕ) → IsStrictWeakOrder (is_below key)
  keys_rank key = ranks_by nat_list_cmp_total key

  pub same_keys : (key now : X → List ℕ) → ((x : X) → now x ≡ key x) → now ≡ key
  same_keys key now keys = λ i x. keys x i

  same_cmp : (key now : X → List ℕ) → ((x : X) → now x ≡ key x) → (x y : X) → key_cmp now x y ≡ key_cmp key x y
  same_cmp key now keys x y = ap (λ k. key_cmp k x y) (same_keys key now keys)

  turned : (key : X → List ℕ) (x y : X) → key_cmp key y x ≡ ordering_reverse (key_cmp key x y)
  turned key x y = nat_list_cmp_total.antisymm (key y) (key x)

  pub told_above : (key now : X → List ℕ) → ((x : X) → now x ≡ key x) → (x y : X) (o : Ordering) → o ≡ key_cmp now x y → o ≡ Greater → is_below key y x ≡ true
  told_above key now keys x y o told is = ap is_lt (turned key x y) ∙ turned_above (key_cmp key x y) (sym (same_cmp key now keys x y) ∙ sym told ∙ is)

  pub told_not_above : (key now : X → List ℕ) → ((x : X) → now x ≡ key x) → (x y : X) (o : Ordering) → o ≡ key_cmp now x y → (o ≡ Greater → ⊥) → is_below key y x ≡ false
  told_not_above key now keys x y o told not = ap is_lt (turned key x y) ∙ turned_not_above (key_cmp key x y) (λ e. not (told ∙ same_cmp key now keys x y ∙ e))
