-- The first place that doesn't suit the one in front of it.
use Rattle.std.proofs.Common.{◌≡◌, ℕ, zero, suc, ◌+◌, ◌-◌, ◌<◌, Bool, true, false, List, [], ◌∷◌, length, drop, get_or, map, refl, sym, ap, ◌∙◌, arith}
use Rattle.std.specs.Prelude.{◌==◌, if◌then◌else◌, slice_get}
use Rattle.std.proofs.lemmas.List.{length-map}
use Rattle.std.specs.List.{AllByRecursion}
use Rattle.std.specs.List.Sorted.{IsStrictlySortedBy}
use Rattle.std.specs.Ordering.{on, nat_cmp}
use Rattle.std.specs.Cmp.Lexicographic.{slice_cmp, nat_list_cmp_total}
use Rattle.std.specs.declared.cmp.Ordering.TheVariants.{Less}
use Rattle.std.specs.declared.option.Option.TheVariants.{None, Some}
use Rattle.std.proofs.lemmas.Bool.Decides.{nat_tests}
use Rattle.std.proofs.lemmas.Option.{slice_get-get_or}
use Rattle.list_laws.proofs.Lists.{rest_from, get_map, get_or-any}
use Rattle.list_laws.proofs.Orders.{less-from_test}
use Rattle.tree_fs.specs.declared.place.Place.{Place}
use Rattle.tree_fs.specs.Texts.{place_text}
use Rattle.move_plan.specs.Tests.{none_or, is_before}
use Rattle.move_plan.specs.Rising.{AreRising, first_out, front_at}

module _ (suits : Place → Place → Bool) (ks : List Place) where
  front_after : (i : ℕ) (k : Place) → i < length ks → k ≡ get_or ks i k → front_at ks (i + 1) ≡ Some k
  front_after i k h e =
      let some : (i + 1 == 0) ≡ false = grind (arith, nat_tests) in
      let back : i + 1 - 1 ≡ i = omega arith in
      (λ j. if some j then None else slice_get ks (back j)) ∙ slice_get-get_or ks i k h ∙ ap Some (sym e)

  pub out-step : (i : ℕ) (k : Place) → i < length ks → k ≡ get_or ks i k → none_or (λ q. suits q k) (front_at ks i) ≡ true → first_out suits i (front_at ks i) (drop i ks) ≡ first_out suits (i + 1) (front_at ks (i + 1)) (drop (i + 1) ks)
  out-step i k h e t =
      ap (first_out suits i (front_at ks i)) (rest_from ks i k h e)
      ∙ (λ j. if t j then first_out suits (i + 1) (Some k) (drop (i + 1) ks) else Some i)
      ∙ ap (λ o. first_out suits (i + 1) o (drop (i + 1) ks)) (sym (front_after i k h e))

  pub out-found : (i : ℕ) (k : Place) → i < length ks → k ≡ get_or ks i k → none_or (λ q. suits q k) (front_at ks i) ≡ false → first_out suits i (front_at ks i) (drop i ks) ≡ Some i
  out-found i k h e t =
      ap (first_out suits i (front_at ks i)) (rest_from ks i k h e)
      ∙ (λ j. if t j then first_out suits (i + 1) (Some k) (drop (i + 1) ks) else Some i)

  pub front-some : (i : ℕ) (q : Place) → 0 < i → i < length ks → q ≡ get_or ks (i - 1) q → front_at ks i ≡ Some q
  front-some i q some h e =
      let apart : (i == 0) ≡ false = grind (arith, nat_tests) in
      (λ j. if apart j then None else slice_get ks (i - 1)) ∙ slice_get-get_or ks (i - 1) q (omega arith) ∙ ap Some (sym e)

  pub front-none : (i : ℕ) → (i == 0) ≡ true → front_at ks i ≡ None
  front-none i e = λ j. if e j then None else slice_get ks (i - 1)

-- the key of an item is the item of the keys
pub key_at : {X : Type 0} (key : X → Place) (xs : List X) (i : ℕ) (x : X) → x ≡ get_or xs i x → key x ≡ get_or (map key xs) i (key x)
key_at key xs i x e = ap key e ∙ sym (get_map key xs i x)

-- a list with an item at an index has that item
item_at : {X : Type 0} (xs : List X) (i : ℕ) → i < length xs → (x : X) × (x ≡ get_or xs i x)
item_at [] i h = let wrong : ⊥ = omega arith in absurd wrong
item_at (x ∷ xs) i h = (get_or (x ∷ xs) i x, get_or-any (x ∷ xs) i x (get_or (x ∷ xs) i x) h)

module _ {X : Type 0} (key : X → Place) (suits : Place → Place → Bool) (xs : List X) (i : ℕ) (h : i < length xs) (test : Bool)
    (tests : (x : X) → x ≡ get_or xs i x → test ≡ none_or (λ q. suits q (key x)) (front_at (map key xs) i)) where
  within : i < length (map key xs)
  within = rw (length-map xs key) h

  pub out-step-at : test ≡ true → first_out suits i (front_at (map key xs) i) (drop i (map key xs)) ≡ first_out suits (i + 1) (front_at (map key xs) (i + 1)) (drop (i + 1) (map key xs))
  out-step-at e =
      let x = item_at xs i h in
      out-step suits (map key xs) i (key x.0) within (key_at key xs i x.0 x.1) (sym (tests x.0 x.1) ∙ e)

  pub out-found-at : test ≡ false → first_out suits i (front_at (map key xs) i) (drop i (map key xs)) ≡ Some i
  out-found-at e =
      let x = item_at xs i h in
      out-found suits (map key xs) i (key x.0) within (key_at key xs i x.0 x.1) (sym (tests x.0 x.1) ∙ e)

module _ (suits : Place → Place → Bool) (ks : List Place) (i : ℕ) (h : i < length ks) (test : Bool)
    (tests : (p : Place) → p ≡ get_or ks i p → test ≡ none_or (λ q. suits q p) (front_at ks i)) where
  pub out-step-here : test ≡ true → first_out suits i (front_at ks i) (drop i ks) ≡ first_out suits (i + 1) (front_at ks (i + 1)) (drop (i + 1) ks)
  out-step-here e =
      let x = item_at ks i h in
      out-step suits ks i x.0 h x.1 (sym (tests x.0 x.1) ∙ e)

  pub out-found-here : test ≡ false → first_out suits i (front_at ks i) (drop i ks) ≡ Some i
  out-found-here e =
      let x = item_at ks i h in
      out-found suits ks i x.0 h x.1 (sym (tests x.0 x.1) ∙ e)

pub positive : (n : ℕ) → (n ≡ 0 → ⊥) → 0 < n
positive zero h = absurd (h refl)
positive (suc n) h = omega arith

-- what the two entries at an index and in front of it tell
module _ {X : Type 0} (key : X → Place) (suits : Place → Place → Bool) (xs : List X) (at : ℕ) (h : at < length xs) where
  pub front_tells : (front here : X) → 0 < at → front ≡ get_or xs (at - 1) front → here ≡ get_or xs at here → (item : X) → item ≡ get_or xs at item → suits (key front) (key here) ≡ none_or (λ q. suits q (key item)) (front_at (map key xs) at)
  front_tells front here some f e item is =
      let same : item ≡ here = is ∙ get_or-any xs at item here h ∙ sym e in
      let within : at < length (map key xs) = rw (length-map xs key) h in
      let its = front-some suits (map key xs) at (key front) some within (key_at key xs (at - 1) front f) in
      ap (λ y. suits (key front) (key y)) (sym same) ∙ ap (none_or (λ q. suits q (key item))) (sym its)

  pub front_tells_none : at ≡ 0 → (item : X) → true ≡ none_or (λ q. suits q (key item)) (front_at (map key xs) at)
  front_tells_none e item =
      let test : (at == 0) ≡ true = grind (arith, nat_tests) in
      ap (none_or (λ q. suits q (key item))) (sym (front-none suits (map key xs) at test))

-- a list in which each place is above the one in front of it rises
rises_after : (k : Place) (ks : List Place) (i : ℕ) → first_out is_before i (Some k) ks ≡ None → AllByRecursion (λ p. on place_text (slice_cmp nat_cmp) k p ≡ Less) ks × IsStrictlySortedBy (on place_text (slice_cmp nat_cmp)) ks
unfolding IsStrictlySortedBy
rises_after k [] i e = (tt, tt)
rises_after k (p ∷ ps) i e = by (is_before k p) refl e (rises_after p ps (i + 1))
  where
    far : (ps : List Place) → slice_cmp nat_cmp (place_text k) (place_text p) ≡ Less → AllByRecursion (λ q. on place_text (slice_cmp nat_cmp) p q ≡ Less) ps → AllByRecursion (λ q. on place_text (slice_cmp nat_cmp) k q ≡ Less) ps
    far [] h all = tt
    far (q ∷ qs) h all = (nat_list_cmp_total.trans (place_text k) (place_text p) (place_text q) h all.0, far qs h all.1)

    by : (b : Bool) → is_before k p ≡ b → (if b then first_out is_before (i + 1) (Some p) ps else Some i) ≡ None → (first_out is_before (i + 1) (Some p) ps ≡ None → AllByRecursion (λ q. on place_text (slice_cmp nat_cmp) p q ≡ Less) ps × IsStrictlySortedBy (on place_text (slice_cmp nat_cmp)) ps) → AllByRecursion (λ q. on place_text (slice_cmp nat_cmp) k q ≡ Less) (p ∷ ps) × IsStrictlySortedBy (on place_text (slice_cmp nat_cmp)) (p ∷ ps)
    by true is e later =
        let less = less-from_test (slice_cmp nat_cmp (place_text k) (place_text p)) is in
        let rest = later e in
        ((less, far ps less rest.0), (rest.0, rest.1))
    by false is e later = let wrong : Some i ≡ None = e in absurd (cc)

pub rises : (ks : List Place) → first_out is_before 0 None ks ≡ None → AreRising ks
unfolding IsStrictlySortedBy
rises [] e = tt
rises (k ∷ ks) e = let rest = rises_after k ks (0 + 1) e in (rest.0, rest.1)

-- a list of places is the list of their keys
pub same_map : (xs : List Place) → map (λ p. p) xs ≡ xs
same_map [] = refl
same_map (x ∷ xs) = ap (λ l. x ∷ l) (same_map xs)
