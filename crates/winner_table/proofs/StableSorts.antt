-- `sorted` is a stable sort: it ascends, has the same items, and keeps the order of those that tie.
use Rattle.std.proofs.Common.{◌≡◌, ℕ, zero, suc, ◌+◌, ◌<◌, List, [], ◌∷◌, Bool, true, false, not, ◌&&◌, cond, length, get_or, filter, IsSortedBy, sym, refl, ap, subst, ◌∙◌, inl, inr, arith, true≢false}
use Rattle.std.specs.List.Sorted.{ties}
use Rattle.std.specs.Cmp.{IsStrictWeakOrder}
use Rattle.list_laws.proofs.Truths.{neither}
use Rattle.winner_table.specs.Merged.{insert, sorted, sorted_by, is_below, IsSortOf}
use Rattle.winner_table.proofs.Sorting.{either, insert_later, insert_here}
use Rattle.winner_table.proofs.Orders.{keys_rank}
use Rattle.winner_table.proofs.Taken.{sorted_permutes}

module _ {X : Type 0} (lt : X → X → Bool) where
  abbrev pub IsFirst : X → List X → Type 0
  IsFirst x [] = Unit {0}
  IsFirst x (y ∷ ys) = lt y x ≡ false

  abbrev pub Rises : List X → Type 0
  Rises [] = Unit {0}
  Rises (x ∷ xs) = IsFirst x xs × Rises xs

  rises_index : (xs : List X) → Rises xs → (k : ℕ) (d : X) → suc k < length xs → lt (get_or xs (suc k) d) (get_or xs k d) ≡ false
  rises_index [] h k d low = absurd (omega arith)
  rises_index (x ∷ []) h k d low = absurd (omega arith)
  rises_index (x ∷ y ∷ ys) h zero d low = h.0
  rises_index (x ∷ y ∷ ys) h (suc k) d low = rises_index (y ∷ ys) h.1 k d (omega arith)

  pub rises_ascends : (xs : List X) → Rises xs → IsSortedBy lt xs
  rises_ascends xs h k d low high =
      let e : suc k ≡ k + 1 = omega arith in
      subst (λ n. lt (get_or xs n d) (get_or xs k d) ≡ false) e (rises_index xs h k d (omega arith))

  module _ (o : IsStrictWeakOrder lt) where
    first_put : (x y z : X) (zs : List X) → lt y x ≡ true → lt z y ≡ false → IsFirst y (insert lt x (z ∷ zs))
    first_put x y z zs e f = elim (either (lt z x)) [
      | inl g ↦ subst (IsFirst y) (sym (insert_later lt x z zs g)) f
      | inr g ↦ subst (IsFirst y) (sym (insert_here lt x z zs g)) (o.one_way y x e)
    ]

    first : (x y : X) (ys : List X) → lt y x ≡ true → IsFirst y ys → IsFirst y (insert lt x ys)
    first x y [] e f = o.one_way y x e
    first x y (z ∷ zs) e f = first_put x y z zs e f

    rises_one : (x y : X) (ys : List X) → Rises (y ∷ ys) → Rises (insert lt x ys) → Rises (insert lt x (y ∷ ys))
    rises_one x y ys h up = elim (either (lt y x)) [
      | inl e ↦ subst Rises (sym (insert_later lt x y ys e)) (first x y ys e h.0, up)
      | inr e ↦ subst Rises (sym (insert_here lt x y ys e)) (e, h)
    ]

    rises_put : (x : X) (ys : List X) → Rises ys → Rises (insert lt x ys)
    rises_put x [] h = (tt, tt)
    rises_put x (y ∷ ys) h = rises_one x y ys h (rises_put x ys h.1)

    pub sorted_rises : (xs : List X) → Rises (sorted lt xs)
    sorted_rises [] = tt
    sorted_rises (x ∷ xs) = rises_put x (sorted lt xs) (sorted_rises xs)

    pub sorted_ascends : (xs : List X) → IsSortedBy lt (sorted lt xs)
    sorted_ascends xs = rises_ascends (sorted lt xs) (sorted_rises xs)

module _ {X : Type 0} (p : X → Bool) where
  filter_yes : (x : X) (xs : List X) → p x ≡ true → filter p (x ∷ xs) ≡ x ∷ filter p xs
  filter_yes x xs e = ap (λ b. cond b (x ∷ filter p xs) (filter p xs)) e

  filter_no : (x : X) (xs : List X) → p x ≡ false → filter p (x ∷ xs) ≡ filter p xs
  filter_no x xs e = ap (λ b. cond b (x ∷ filter p xs) (filter p xs)) e

  -- two that don't both pass change places
  filter_two : (x y : X) (xs ys : List X) → (p x ≡ true → p y ≡ true → ⊥) → filter p ys ≡ filter p (x ∷ xs) → filter p (y ∷ ys) ≡ filter p (x ∷ y ∷ xs)
  filter_two x y xs ys apart h = elim (either (p x)) [
    | inl e ↦ elim (either (p y)) [
      | inl f ↦ absurd (apart e f)
      | inr f ↦ filter_no y ys f ∙ h ∙ filter_yes x xs e ∙ ap (λ l. x ∷ l) (sym (filter_no y xs f)) ∙ sym (filter_yes x (y ∷ xs) e)
    ]
    | inr e ↦ elim (either (p y)) [
      | inl f ↦ filter_yes y ys f ∙ ap (λ l. y ∷ l) (h ∙ filter_no x xs e) ∙ sym (filter_yes y xs f) ∙ sym (filter_no x (y ∷ xs) e)
      | inr f ↦ filter_no y ys f ∙ h ∙ filter_no x xs e ∙ sym (filter_no y xs f) ∙ sym (filter_no x (y ∷ xs) e)
    ]
  ]

  filter_after : (x : X) (xs ys : List X) → filter p xs ≡ filter p ys → filter p (x ∷ xs) ≡ filter p (x ∷ ys)
  filter_after x xs ys h = ap (λ l. cond (p x) (x ∷ l) l) h

module _ {X : Type 0} (lt : X → X → Bool) (o : IsStrictWeakOrder lt) (z : X) where
  apart : (x y : X) → lt y x ≡ true → ties lt z x ≡ true → ties lt z y ≡ true → ⊥
  apart x y e f g =
      let a = neither (lt z x) (lt x z) f in
      let b = neither (lt z y) (lt y z) g in
      true≢false (sym e ∙ o.chain y z x b.1 a.0)

  keeps_one : (x y : X) (ys : List X) → filter (ties lt z) (insert lt x ys) ≡ filter (ties lt z) (x ∷ ys) → filter (ties lt z) (insert lt x (y ∷ ys)) ≡ filter (ties lt z) (x ∷ y ∷ ys)
  keeps_one x y ys h = elim (either (lt y x)) [
    | inl e ↦ ap (filter (ties lt z)) (insert_later lt x y ys e) ∙ filter_two (ties lt z) x y ys (insert lt x ys) (apart x y e) h
    | inr e ↦ ap (filter (ties lt z)) (insert_here lt x y ys e)
  ]

  keeps_put : (x : X) (ys : List X) → filter (ties lt z) (insert lt x ys) ≡ filter (ties lt z) (x ∷ ys)
  keeps_put x [] = refl
  keeps_put x (y ∷ ys) = keeps_one x y ys (keeps_put x ys)

  pub sorted_keeps : (xs : List X) → filter (ties lt z) (sorted lt xs) ≡ filter (ties lt z) xs
  sorted_keeps [] = refl
  sorted_keeps (x ∷ xs) = keeps_put x (sorted lt xs) ∙ filter_after (ties lt z) x (sorted lt xs) xs (sorted_keeps xs)

sorted_by_sorts : {X : Type 0} (key : X → List ℕ) (xs : List X) → IsSortOf key xs (sorted_by key xs)
sorted_by_sorts key xs = record {
  ascends = sorted_ascends (is_below key) (keys_rank key) xs;
  permutes = sorted_permutes (is_below key) xs;
  stable = λ z. sorted_keeps (is_below key) (keys_rank key) z xs;
}

pub sorts_from : {X : Type 0} (key : X → List ℕ) (xs ys : List X) → ys ≡ sorted_by key xs → IsSortOf key xs ys
sorts_from {X} key xs ys e =
    let P : List X → Type 0 = λ l. IsSortOf key xs l in
    subst P (sym e) (sorted_by_sorts key xs)
