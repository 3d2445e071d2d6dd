-- The first item that passes one of two tests, and the first in a part of a list.
use Rattle.std.proofs.Common.{◌≡◌, ◌⊎◌, ℕ, ◌+◌, ◌-◌, ◌<◌, ◌≤◌, Bool, true, false, List, [], ◌∷◌, length, take, drop, get_or, min, refl, sym, ap, ◌∙◌, subst, inl, inr, arith}
use Rattle.std.specs.Prelude.{position, ◌||◌}
use Rattle.std.specs.List.{list_any}
use Rattle.std.specs.declared.option.Option.{Option}
use Rattle.std.specs.declared.option.Option.TheVariants.{None, Some}
use Rattle.std.proofs.lemmas.List.{get_or-drop, get_or-take, length-drop, length-take-le}
use Rattle.std.proofs.lemmas.List.Folds.{list_any-append}
use Rattle.std.proofs.lemmas.List.Quantifiers.{position-Some}
use Rattle.list_laws.proofs.Lists.{one_more}
use Rattle.list_laws.proofs.Positions.{place_below}
use Rattle.list_laws.proofs.Truths.{same_function, or_false}
use Rattle.tree_fs.specs.declared.place.Place.{Place}
use Rattle.move_plan.specs.declared.plan.SetRow.{SetRow}
use Rattle.tree_fs.specs.Texts.{place_text}
use Rattle.move_plan.specs.Tests.{some_and, has_text, is_from, is_source}
use Rattle.move_plan.specs.Rising.{earlier}
use Rattle.move_plan.proofs.Searching.{position-at, position-nowhere, position-None}

either_true : (a b : Bool) → a ≡ true → (a || b) ≡ true
either_true a b e = λ i. e i || b

or_true : (a b : Bool) → b ≡ true → (a || b) ≡ true
or_true true b e = refl
or_true false b e = e

both_false : (a b : Bool) → a ≡ false → b ≡ false → (a || b) ≡ false
both_false a b e f = λ i. e i || f i

module _ {X : Type 0} (p q : X → Bool) (xs : List X) where
  two : (i j : ℕ) → position p xs ≡ Some i → position q xs ≡ Some j → (i ≤ j) ⊎ (j < i) → Some (min i j) ≡ position (λ x. p x || q x) xs
  two i j e f (inl below) =
      let least : min i j ≡ i = omega arith in
      ap Some least ∙ sym (position-at (λ x. p x || q x) xs i (place_below p xs i e) (λ d. either_true _ _ (position-Some p xs i d e).1) (λ k d h. both_false _ _ ((position-Some p xs i d e).2 k h) ((position-Some q xs j d f).2 k (omega arith))))
  two i j e f (inr above) =
      let least : min i j ≡ j = omega arith in
      ap Some least ∙ sym (position-at (λ x. p x || q x) xs j (place_below q xs j f) (λ d. or_true _ _ (position-Some q xs j d f).1) (λ k d h. both_false _ _ ((position-Some p xs i d e).2 k (omega arith)) ((position-Some q xs j d f).2 k h)))

  by_answers : (a b : Option ℕ) → position p xs ≡ a → position q xs ≡ b → earlier a b ≡ position (λ x. p x || q x) xs
  by_answers None None e f = sym (position-nowhere (λ x. p x || q x) xs (λ k d h. both_false _ _ (position-None p xs e k d h) (position-None q xs f k d h)))
  by_answers None (Some j) e f =
      sym (position-at (λ x. p x || q x) xs j (place_below q xs j f) (λ d. or_true _ _ (position-Some q xs j d f).1) (λ k d h. both_false _ _ (position-None p xs e k d (small k h)) ((position-Some q xs j d f).2 k h)))
    where
      small : (k : ℕ) → k < j → k < length xs
      small k h = let w = place_below q xs j f in omega arith
  by_answers (Some i) None e f =
      sym (position-at (λ x. p x || q x) xs i (place_below p xs i e) (λ d. either_true _ _ (position-Some p xs i d e).1) (λ k d h. both_false _ _ ((position-Some p xs i d e).2 k h) (position-None q xs f k d (small k h))))
    where
      small : (k : ℕ) → k < i → k < length xs
      small k h = let w = place_below p xs i e in omega arith
  by_answers (Some i) (Some j) e f = two i j e f (grind arith)

  -- the earlier of two first items is the first that passes either test
  pub earlier-position : earlier (position p xs) (position q xs) ≡ position (λ x. p x || q x) xs
  earlier-position = by_answers (position p xs) (position q xs) refl refl

-- one more set has its source there
pub is_source-more : (sets : List SetRow) (i : ℕ) (row : SetRow) (p : Place) → i < length sets → row ≡ get_or sets i row → is_source (take (i + 1) sets) p ≡ (is_source (take i sets) p || is_from p row)
is_source-more sets i row p h e =
    ap (list_any (is_from p)) (one_more sets i row h e) ∙ list_any-append (is_from p) (take i sets) (row ∷ [])
    ∙ ap (λ b. is_source (take i sets) p || b) (or_false (is_from p row) false refl)

-- a set without a source has it nowhere
pub no_from : {X : Type 0} (key : X → Place) (xs : List X) (row : SetRow) → row.from ≡ None → position (λ x. is_from (key x) row) xs ≡ None
no_from key xs row e =
    position-nowhere (λ x. is_from (key x) row) xs (λ k d h. ap (some_and (λ from. has_text (place_text from) (key (get_or xs k d)))) e)

module _ {X : Type 0} (key : X → Place) (xs : List X) (sets : List SetRow) where
  pub no_source : position (λ x. is_source [] (key x)) xs ≡ None
  no_source = position-nowhere (λ x. false) xs (λ k d h. refl)

  pub first_source-more : (i : ℕ) (row : SetRow) → i < length sets → row ≡ get_or sets i row → earlier (position (λ x. is_source (take i sets) (key x)) xs) (position (λ x. is_from (key x) row) xs) ≡ position (λ x. is_source (take (i + 1) sets) (key x)) xs
  first_source-more i row h e =
      earlier-position (λ x. is_source (take i sets) (key x)) (λ x. is_from (key x) row) xs
      ∙ ap (λ t. position t xs) (same_function _ _ (λ x. sym (is_source-more sets i row (key x) h e)))

-- a part of a list, in front of which no item passes
module _ {X : Type 0} (p : X → Bool) (xs part : List X) (start end : ℕ) (is : part ≡ take (end - start) (drop start xs)) (more : start < end) (within : end ≤ length xs)
    (before : (k : ℕ) (d : X) → k < start → p (get_or xs k d) ≡ false) where
  pub part_length : length part ≡ end - start
  part_length =
      let left : length (drop start xs) ≡ length xs - start = length-drop start xs in
      ap length is ∙ length-take-le (end - start) (drop start xs) (omega arith)

  item : (j : ℕ) (d : X) → j < end - start → get_or part j d ≡ get_or xs (start + j) d
  item j d h = ap (λ l. get_or l j d) is ∙ get_or-take (end - start) (drop start xs) j d h ∙ get_or-drop start xs j d

  side : (k : ℕ) → (k < start) ⊎ (start ≤ k)
  side k = grind arith

  -- the item of the part that is one of the list
  behind : (k : ℕ) (d : X) → start ≤ k → k < end → get_or part (k - start) d ≡ get_or xs k d
  behind k d back h =
      let j : start + (k - start) ≡ k = omega arith in
      item (k - start) d (omega arith) ∙ ap (λ n. get_or xs n d) j

  -- the first item that passes
  pub part_found : (i : ℕ) → Some i ≡ position p part → Some (start + i) ≡ position p xs
  part_found i e = sym (position-at p xs (start + i) (omega (arith, small, within)) here earlier_ones)
    where
      small : i < end - start
      small = subst (λ n. i < n) part_length (place_below p part i (sym e))

      here : (d : X) → p (get_or xs (start + i) d) ≡ true
      here d = sym (ap p (item i d small)) ∙ (position-Some p part i d (sym e)).1

      by_side : (k : ℕ) (d : X) → k < start + i → (k < start) ⊎ (start ≤ k) → p (get_or xs k d) ≡ false
      by_side k d h (inl front) = before k d front
      by_side k d h (inr back) = sym (ap p (behind k d back (omega (arith, small)))) ∙ (position-Some p part i d (sym e)).2 (k - start) (omega arith)

      earlier_ones : (k : ℕ) (d : X) → k < start + i → p (get_or xs k d) ≡ false
      earlier_ones k d h = by_side k d h (side k)

  -- none passes in front of the end of the part
  pub part_none : None ≡ position p part → (k : ℕ) (d : X) → k < end → p (get_or xs k d) ≡ false
  part_none e k d h = by_side (side k)
    where
      by_side : (k < start) ⊎ (start ≤ k) → p (get_or xs k d) ≡ false
      by_side (inl front) = before k d front
      by_side (inr back) = sym (ap p (behind k d back h)) ∙ position-None p part (sym e) (k - start) d (omega (arith, part_length))
