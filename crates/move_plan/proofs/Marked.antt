-- Marks of the clears that are sources of sets.
use Rattle.std.proofs.Common.{◌≡◌, ◌≢◌, ◌⊎◌, ℕ, ◌-◌, ◌<◌, ◌≤◌, Bool, true, false, List, length, get_or, set, refl, sym, ap, ◌∙◌, subst, inl, inr, arith}
use Rattle.std.specs.Prelude.{position, not, ◌||◌}
use Rattle.std.specs.Ordering.{nat_cmp}
use Rattle.std.specs.Cmp.Lexicographic.{slice_cmp}
use Rattle.std.specs.declared.cmp.Ordering.TheVariants.{Less}
use Rattle.std.specs.declared.option.Option.{Option}
use Rattle.std.specs.declared.option.Option.TheVariants.{None, Some}
use Rattle.std.proofs.lemmas.List.{get_or-set_same, get_or-set_other}
use Rattle.std.proofs.lemmas.List.Quantifiers.{position-Some}
use Rattle.std.proofs.lemmas.Slice.Eq.{bytes_eq-Decides}
use Rattle.list_laws.proofs.Lists.{get_or-any}
use Rattle.list_laws.proofs.Orders.{text_not_itself}
use Rattle.list_laws.proofs.Positions.{place_below}
use Rattle.list_laws.proofs.Truths.{or_false}
use Rattle.tree_fs.specs.declared.place.Place.{Place}
use Rattle.tree_fs.specs.Texts.{place_text}
use Rattle.move_plan.specs.declared.plan.SetRow.{SetRow}
use Rattle.move_plan.specs.Tests.{some_and, has_text, is_from}
use Rattle.move_plan.specs.Rising.{AreRising}
use Rattle.move_plan.proofs.Searching.{position-at, position-nowhere, position-None, other_text, rising_at}
use Rattle.move_plan.proofs.Turned.{same_map}

or_true : (b : Bool) → (b || true) ≡ true
or_true true = refl
or_true false = refl

module _ (clears : List Place) (up : AreRising clears) (row : SetRow) where
  -- no clear behind a set's source is its source
  other_source : (at k : ℕ) (d : Place) → at < k → k < length clears → is_from (get_or clears at d) row ≡ true → is_from (get_or clears k d) row ≡ false
  other_source at k d less within e = by row.from e
    where
      up_to : slice_cmp nat_cmp (place_text (get_or clears at d)) (place_text (get_or clears k d)) ≡ Less
      up_to = rising_at (λ p. p) clears (subst AreRising (sym (same_map clears)) up) at k d less within

      by : (o : Option Place) → some_and (λ from. has_text (place_text from) (get_or clears at d)) o ≡ true → some_and (λ from. has_text (place_text from) (get_or clears k d)) o ≡ false
      by None wrong = refl
      by (Some from) e =
          let here : place_text (get_or clears at d) ≡ place_text from = (bytes_eq-Decides (place_text (get_or clears at d)) (place_text from)).0 e in
          other_text (place_text (get_or clears k d)) (place_text from) (λ same.
          text_not_itself (place_text from) (subst (λ t. slice_cmp nat_cmp t (place_text from) ≡ Less) here (subst (λ t. slice_cmp nat_cmp (place_text (get_or clears at d)) t ≡ Less) same up_to)))

  pub marked : (marks : List Bool) (at : ℕ) → length clears ≤ length marks → Some at ≡ position (λ p. is_from p row) clears → (k : ℕ) (d : Place) → k < length clears → get_or (set marks at true) k false ≡ (get_or marks k false || is_from (get_or clears k d) row)
  marked marks at room e k d within = by_side (side k at)
    where
      there : at < length clears
      there = place_below (λ p. is_from p row) clears at (sym e)

      side : (m n : ℕ) → (m < n) ⊎ (n ≤ m)
      side m n = grind arith

      found : is_from (get_or clears at d) row ≡ true
      found = (position-Some (λ p. is_from p row) clears at d (sym e)).1

      other : k ≢ at → is_from (get_or clears k d) row ≡ false → get_or (set marks at true) k false ≡ (get_or marks k false || is_from (get_or clears k d) row)
      other ne off =
          get_or-set_other marks at k true false ne
          ∙ sym (or_false (get_or marks k false) false refl) ∙ ap (λ b. get_or marks k false || b) (sym off)

      same : k ≡ at → get_or (set marks at true) k false ≡ (get_or marks k false || is_from (get_or clears k d) row)
      same is =
          let here : is_from (get_or clears k d) row ≡ true = ap (λ n. is_from (get_or clears n d) row) is ∙ found in
          ap (λ n. get_or (set marks at true) n false) is ∙ get_or-set_same marks at true false (omega (arith, there, room))
          ∙ sym (or_true (get_or marks k false)) ∙ ap (λ b. get_or marks k false || b) (sym here)

      apart : (m n : ℕ) → m < n → m ≢ n
      apart m n less is = let never : ⊥ = omega arith in never

      by_other : at ≤ k → (at < k) ⊎ (k ≤ at) → get_or (set marks at true) k false ≡ (get_or marks k false || is_from (get_or clears k d) row)
      by_other back (inl behind) = other (λ is. apart at k behind (sym is)) (other_source at k d behind within found)
      by_other back (inr front) = same (omega arith)

      by_side : (k < at) ⊎ (at ≤ k) → get_or (set marks at true) k false ≡ (get_or marks k false || is_from (get_or clears k d) row)
      by_side (inl front) = other (apart k at front) ((position-Some (λ p. is_from p row) clears at d (sym e)).2 k front)
      by_side (inr back) = by_other back (side at k)

  pub unmarked : (marks : List Bool) → position (λ p. is_from p row) clears ≡ None → (k : ℕ) (d : Place) → k < length clears → get_or marks k false ≡ (get_or marks k false || is_from (get_or clears k d) row)
  unmarked marks e k d within =
      sym (or_false (get_or marks k false) false refl) ∙ ap (λ b. get_or marks k false || b) (sym (position-None (λ p. is_from p row) clears e k d within))

module _ (used there : Place → Bool) (clears : List Place) (marks : List Bool) (same : (k : ℕ) (d : Place) → k < length clears → get_or marks k false ≡ used (get_or clears k d)) where
  passed : (k : ℕ) (d : Place) → k < length clears → (get_or marks k false || there (get_or clears k d)) ≡ true → not (used (get_or clears k d) || there (get_or clears k d)) ≡ false
  passed k d within e = (λ i. not (sym (same k d within) i || there (get_or clears k d))) ∙ ap not e

  -- the first clear that is neither marked nor saved to
  pub unused_here : (at : ℕ) (p : Place) (mark : Bool) → at < length clears → p ≡ get_or clears at p → mark ≡ get_or marks at false → (mark || there p) ≡ false → ((k : ℕ) (d : Place) → k < at → (get_or marks k false || there (get_or clears k d)) ≡ true) → Some at ≡ position (λ q. not (used q || there q)) clears
  unused_here at p mark within e m neither before =
      sym (position-at (λ q. not (used q || there q)) clears at within here (λ k d h. passed k d (omega arith) (before k d h)))
    where
      here : (d : Place) → not (used (get_or clears at d) || there (get_or clears at d)) ≡ true
      here d =
          let item : get_or clears at d ≡ p = get_or-any clears at d p within ∙ sym e in
          let its : used (get_or clears at d) ≡ mark = sym (same at d within) ∙ sym m in
          (λ i. not (its i || there (item i))) ∙ ap not neither

  pub all_used : ((k : ℕ) (d : Place) → k < length clears → (get_or marks k false || there (get_or clears k d)) ≡ true) → None ≡ position (λ q. not (used q || there q)) clears
  all_used before = sym (position-nowhere (λ q. not (used q || there q)) clears (λ k d h. passed k d h (before k d h)))

pub used_at : (there : Place → Bool) (clears : List Place) (marks : List Bool) (at : ℕ) (p : Place) → at < length clears → p ≡ get_or clears at p → (get_or marks at false || there p) ≡ true → (d : Place) → (get_or marks at false || there (get_or clears at d)) ≡ true
used_at there clears marks at p within e is d = (λ i. get_or marks at false || there ((get_or-any clears at d p within ∙ sym e) i)) ∙ is
