-- Lists in strict order.
use Rattle.std.proofs.Common.{◌≡◌, ℕ, take, drop, take-append-drop, Bool, true, false, cond, List, [], ◌∷◌, ◌++◌, map, reverse, filter, Ordering, Less, sym, ap, subst, ◌∙◌, inl, inr}
use Rattle.std.specs.List.{AllByRecursion, Contains}
use Rattle.std.specs.List.Sorted.{IsStrictlySortedBy}
use Rattle.std.specs.Cmp.{IsTotalOrder}
use Rattle.std.proofs.lemmas.List.{map-append}
use Rattle.list_laws.proofs.Rising.{Rising, rising_same}
use Rattle.list_laws.proofs.Orders.{not_itself, less-apart}
use Rattle.list_laws.proofs.Alls.{all_append, all_left, all_middle, all_item, all_more, all_weaken, all_map, all_unmap, all_passing, all_reverse}
use Rattle.list_laws.proofs.Containing.{contains_cases, contains_none, map_contains}
use Rattle.list_laws.proofs.Lists.{reverse_cons}

module _ {K : Type 0} (c : K → K → Ordering) where
  -- one item more at the end
  pub sorted_more : (xs : List K) (x : K) → IsStrictlySortedBy c xs → AllByRecursion (λ y. c y x ≡ Less) xs → IsStrictlySortedBy c (xs ++ x ∷ [])
  unfolding IsStrictlySortedBy
  sorted_more [] x s a = (tt, tt)
  sorted_more (y ∷ ys) x s a = (all_more (λ z. c y z ≡ Less) ys x s.0 a.0, sorted_more ys x s.1 a.1)

  -- one item more at the front
  pub sorted_cons : (x : K) (xs : List K) → AllByRecursion (λ y. c x y ≡ Less) xs → IsStrictlySortedBy c xs → IsStrictlySortedBy c (x ∷ xs)
  unfolding IsStrictlySortedBy
  sorted_cons x xs a s = (a, s)

  pub sorted_append : (xs ys : List K) → IsStrictlySortedBy c xs → IsStrictlySortedBy c ys → AllByRecursion (λ x. AllByRecursion (λ y. c x y ≡ Less) ys) xs → IsStrictlySortedBy c (xs ++ ys)
  unfolding IsStrictlySortedBy
  sorted_append [] ys a b h = b
  sorted_append (x ∷ xs) ys a b h = (all_append (λ z. c x z ≡ Less) xs ys a.0 h.0, sorted_append xs ys a.1 b h.1)

  pub sorted_left : (xs ys : List K) → IsStrictlySortedBy c (xs ++ ys) → IsStrictlySortedBy c xs
  unfolding IsStrictlySortedBy
  sorted_left [] ys s = tt
  sorted_left (x ∷ xs) ys s = (all_left (λ z. c x z ≡ Less) xs ys s.0, sorted_left xs ys s.1)

  pub sorted_right : (xs ys : List K) → IsStrictlySortedBy c (xs ++ ys) → IsStrictlySortedBy c ys
  unfolding IsStrictlySortedBy
  sorted_right [] ys s = s
  sorted_right (x ∷ xs) ys s = sorted_right xs ys s.1

  -- what stands in front of an item is below it, and what stands behind it is above it
  pub sorted_front : (xs : List K) (y : K) (ys : List K) → IsStrictlySortedBy c (xs ++ y ∷ ys) → AllByRecursion (λ x. c x y ≡ Less) xs
  unfolding IsStrictlySortedBy
  sorted_front [] y ys s = tt
  sorted_front (x ∷ xs) y ys s = (all_middle (λ z. c x z ≡ Less) xs y ys s.0, sorted_front xs y ys s.1)

  pub sorted_back : (xs : List K) (y : K) (ys : List K) → IsStrictlySortedBy c (xs ++ y ∷ ys) → AllByRecursion (λ x. c y x ≡ Less) ys
  unfolding IsStrictlySortedBy
  sorted_back xs y ys s = (sorted_right xs (y ∷ ys) s).0

  -- items in the order of their keys stay so where some are left out
  pub sorted_filter_by : {X : Type 0} (key : X → K) (p : X → Bool) (xs : List X) → IsStrictlySortedBy c (map key xs) → IsStrictlySortedBy c (map key (filter p xs))
  unfolding IsStrictlySortedBy
  sorted_filter_by key p [] s = tt
  sorted_filter_by key p (x ∷ xs) s = here (p x) (sorted_filter_by key p xs s.1)
    where
      above : AllByRecursion (λ k. c (key x) k ≡ Less) (map key (filter p xs))
      above = all_map (λ k. c (key x) k ≡ Less) key (filter p xs)
          (all_passing (λ y. c (key x) (key y) ≡ Less) p xs (λ y there _. all_item (λ z. c (key x) (key z) ≡ Less) xs y (all_unmap (λ k. c (key x) k ≡ Less) key xs s.0) there))

      here : (b : Bool) → IsStrictlySortedBy c (map key (filter p xs)) → IsStrictlySortedBy c (map key (cond b (x ∷ filter p xs) (filter p xs)))
      here true rest = (above, rest)
      here false rest = rest

  -- the others of a list in the order of keys are above its first
  pub sorted_head_by : {X : Type 0} (key : X → K) (x : X) (xs : List X) → IsStrictlySortedBy c (map key (x ∷ xs)) → AllByRecursion (λ y. c (key x) (key y) ≡ Less) xs
  unfolding IsStrictlySortedBy
  sorted_head_by key x xs s = all_unmap (λ k. c (key x) k ≡ Less) key xs s.0

  pub sorted_cons_by : {X : Type 0} (key : X → K) (x : X) (xs : List X) → AllByRecursion (λ y. c (key x) (key y) ≡ Less) xs → IsStrictlySortedBy c (map key xs) → IsStrictlySortedBy c (map key (x ∷ xs))
  unfolding IsStrictlySortedBy
  sorted_cons_by key x xs a s = (all_map (λ k. c (key x) k ≡ Less) key xs a, s)

  pub sorted_more_by : {X : Type 0} (key : X → K) (xs : List X) (x : X) → IsStrictlySortedBy c (map key xs) → AllByRecursion (λ y. c (key y) (key x) ≡ Less) xs → IsStrictlySortedBy c (map key (xs ++ x ∷ []))
  sorted_more_by key xs x s a = subst (IsStrictlySortedBy c) (sym (map-append key xs (x ∷ []))) (sorted_more (map key xs) (key x) s (all_map (λ k. c k (key x) ≡ Less) key xs a))

  pub sorted_take : (n : ℕ) (xs : List K) → IsStrictlySortedBy c xs → IsStrictlySortedBy c (take n xs)
  sorted_take n xs s = sorted_left (take n xs) (drop n xs) (subst (IsStrictlySortedBy c) (sym (take-append-drop n xs)) s)

  pub sorted_drop : (n : ℕ) (xs : List K) → IsStrictlySortedBy c xs → IsStrictlySortedBy c (drop n xs)
  sorted_drop n xs s = sorted_right (take n xs) (drop n xs) (subst (IsStrictlySortedBy c) (sym (take-append-drop n xs)) s)

  -- the list backwards, where each item is above those behind it
  pub sorted_reverse : (xs : List K) → IsStrictlySortedBy (λ x y. c y x) xs → IsStrictlySortedBy c (reverse xs)
  unfolding IsStrictlySortedBy
  sorted_reverse [] s = tt
  sorted_reverse (x ∷ xs) s = subst (IsStrictlySortedBy c) (sym (reverse_cons x xs)) (sorted_more (reverse xs) x (sorted_reverse xs s.1) (all_reverse (λ y. c y x ≡ Less) xs s.0))

module _ {K : Type 0} {c : K → K → Ordering} (total : IsTotalOrder c) where
  -- an item that is below the first is below all
  pub below_all : (k x : K) (xs : List K) → c k x ≡ Less → IsStrictlySortedBy c (x ∷ xs) → AllByRecursion (λ y. c k y ≡ Less) (x ∷ xs)
  unfolding IsStrictlySortedBy
  below_all k x xs less s = (less, all_weaken (λ y. c x y ≡ Less) (λ y. c k y ≡ Less) xs (λ y above. total.trans k x y less above) s.0)

  -- two lists in order with the same items are one
  pub sorted_same : (xs ys : List K) → IsStrictlySortedBy c xs → IsStrictlySortedBy c ys → ((z : K) → Contains xs z → Contains ys z) → ((z : K) → Contains ys z → Contains xs z) → xs ≡ ys
  unfolding IsStrictlySortedBy
  sorted_same xs ys ox oy down up = rising_same (λ x y. c x y ≡ Less) (not_itself total) total.trans xs ys (rising xs ox) (rising ys oy) down up
    where
      rising : (l : List K) → IsStrictlySortedBy c l → Rising (λ x y. c x y ≡ Less) l
      rising [] s = tt
      rising (x ∷ l) s = (s.0, rising l s.1)

  -- so are two lists of items in the order of their keys
  pub sorted_same_by : {X : Type 0} (key : X → K) (xs ys : List X) → IsStrictlySortedBy c (map key xs) → IsStrictlySortedBy c (map key ys) → ((z : X) → Contains xs z → Contains ys z) → ((z : X) → Contains ys z → Contains xs z) → xs ≡ ys
  unfolding IsStrictlySortedBy
  sorted_same_by {X} key xs ys ox oy down up =
      rising_same (λ x y. c (key x) (key y) ≡ Less) (λ x. not_itself total (key x)) (λ x y z. total.trans (key x) (key y) (key z)) xs ys (rising xs ox) (rising ys oy) down up
    where
      rising : (l : List X) → IsStrictlySortedBy c (map key l) → Rising (λ x y. c (key x) (key y) ≡ Less) l
      rising [] s = tt
      rising (x ∷ l) s = (all_unmap (λ k. c (key x) k ≡ Less) key l s.0, rising l s.1)

  -- no two items have one key
  pub one_of_key : {X : Type 0} (key : X → K) (xs : List X) → IsStrictlySortedBy c (map key xs) → (a b : X) → Contains xs a → Contains xs b → key a ≡ key b → a ≡ b
  unfolding IsStrictlySortedBy
  one_of_key key [] s a b ca cb same = absurd (contains_none a ca)
  one_of_key {X} key (x ∷ xs) s a b ca cb same = elim (contains_cases x a xs ca) [
    | inl ax ↦ elim (contains_cases x b xs cb) [
      | inl bx ↦ ax ∙ sym bx
      | inr there ↦ absurd (less-apart total (key x) (key b) (later b there) (ap key (sym ax) ∙ same))
    ]
    | inr here ↦ elim (contains_cases x b xs cb) [
      | inl bx ↦ absurd (less-apart total (key x) (key a) (later a here) (ap key (sym bx) ∙ sym same))
      | inr there ↦ one_of_key key xs s.1 a b here there same
    ]
  ]
    where
      later : (y : X) → Contains xs y → c (key x) (key y) ≡ Less
      later y there = all_item (λ k. c (key x) k ≡ Less) (map key xs) (key y) s.0 (map_contains key xs y there)
