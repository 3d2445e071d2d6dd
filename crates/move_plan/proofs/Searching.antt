-- What a binary search finds in a list that rises by its places.
use Rattle.std.proofs.Common.{◌≡◌, ◌⊎◌, ℕ, zero, suc, ◌+◌, ◌<◌, ◌≤◌, Bool, true, false, cond, nat_lt, List, [], ◌∷◌, length, map, get_or, refl, sym, ap, ◌∙◌, subst, arith, inl, inr, is_some}
use Rattle.std.specs.Prelude.{position, ◌&&◌, ◌||◌}
use Rattle.std.specs.List.{list_any}
use Rattle.std.specs.List.Sorted.{IsStrictlySortedBy, IsBinarySearchResult, IsSearchInRange, IsPartitionPoint}
use Rattle.std.specs.Bool.{Decides}
use Rattle.std.specs.Ordering.{on, nat_cmp, is_lt, ordering_reverse}
use Rattle.std.specs.Cmp.Lexicographic.{slice_cmp, nat_list_cmp_total}
use Rattle.std.specs.Str.{bytes_eq}
use Rattle.std.specs.declared.cmp.Ordering.{Ordering}
use Rattle.std.specs.declared.cmp.Ordering.TheVariants.{Less, Equal, Greater}
use Rattle.std.specs.declared.option.Option.{Option}
use Rattle.std.specs.declared.option.Option.TheVariants.{None, Some}
use Rattle.std.specs.declared.result.Result.{Result}
use Rattle.std.specs.declared.result.Result.TheVariants.{Ok, Err}
use Rattle.std.specs.Result.{result_ok}
use Rattle.std.proofs.lemmas.Bool.Decides.{nat_tests}
use Rattle.std.specs.List.{position_or_len}
use Rattle.std.proofs.lemmas.List.Sums.{position_or_len_is, fails_before_first}
use Rattle.std.proofs.lemmas.List.Quantifiers.{position-Some}
use Rattle.std.proofs.lemmas.List.Sorted.{searchable_from_sorted}
use Rattle.std.proofs.lemmas.Slice.Eq.{bytes_eq-Decides}
use Rattle.tree_fs.specs.declared.place.Place.{Place}
use Rattle.tree_fs.specs.Texts.{place_text}
use Rattle.list_laws.proofs.Alls.{all_at, all_unmap}
use Rattle.list_laws.proofs.Orders.{text_not_itself, text_tied}
use Rattle.move_plan.specs.Tests.{has_text}
use Rattle.move_plan.specs.Rising.{AreRising}

module _ {X : Type 0} (p : X → Bool) where
  pub position-at : (xs : List X) (i : ℕ) → i < length xs → ((d : X) → p (get_or xs i d) ≡ true) → ((k : ℕ) (d : X) → k < i → p (get_or xs k d) ≡ false) → position p xs ≡ Some i
  position-at [] i lt t f = let no : ⊥ = omega arith in absurd no
  position-at (x ∷ xs) i lt t f =
      let e = position_or_len_is p (x ∷ xs) i x (omega arith) (λ k h. f k x h) (λ _. t x) in
      let within : nat_lt i (length (x ∷ xs)) ≡ true = grind (arith, nat_tests) in
      subst (λ n. cond (nat_lt n (length (x ∷ xs))) (Some n) None ≡ Some i) (sym e) (ap (λ b. cond b (Some i) None) within)

  pub position-nowhere : (xs : List X) → ((k : ℕ) (d : X) → k < length xs → p (get_or xs k d) ≡ false) → position p xs ≡ None
  position-nowhere [] f = refl
  position-nowhere (x ∷ xs) f =
      let n = length (x ∷ xs) in
      let e = position_or_len_is p (x ∷ xs) n x (omega arith) (λ k h. f k x h) (λ h. let no : ⊥ = omega arith in absurd no) in
      let beyond : nat_lt n n ≡ false = grind (arith, nat_tests) in
      subst (λ m. cond (nat_lt m n) (Some m) None ≡ None) (sym e) (ap (λ b. cond b (Some n) None) beyond)

  pub position-None : (xs : List X) → position p xs ≡ None → (k : ℕ) (d : X) → k < length xs → p (get_or xs k d) ≡ false
  position-None xs e k d h = by (nat_lt (position_or_len p xs) (length xs)) refl e
    where
      by : (b : Bool) → nat_lt (position_or_len p xs) (length xs) ≡ b → cond b (Some (position_or_len p xs)) None ≡ None → p (get_or xs k d) ≡ false
      by true is e = let no : Some (position_or_len p xs) ≡ None = e in absurd (cc)
      by false is e = let far : length xs ≤ position_or_len p xs = grind (arith, nat_tests) in fails_before_first p xs k d (omega arith)

  any_nowhere : (xs : List X) → ((k : ℕ) (d : X) → k < length xs → p (get_or xs k d) ≡ false) → list_any p xs ≡ false
  any_nowhere [] f = refl
  any_nowhere (x ∷ xs) f = λ i. f 0 x (omega arith) i || any_nowhere xs (λ k d h. f (suc k) d (omega arith)) i

  pub any_at : (xs : List X) (i : ℕ) (d : X) → i < length xs → p (get_or xs i d) ≡ true → list_any p xs ≡ true
  any_at [] i d h e = let no : ⊥ = omega arith in absurd no
  any_at (x ∷ xs) zero d h e = λ j. e j || list_any p xs
  any_at (x ∷ xs) (suc i) d h e = ap (λ b. p x || b) (any_at xs i d (omega arith) e) ∙ or_true (p x)
    where
      or_true : (b : Bool) → (b || true) ≡ true
      or_true true = refl
      or_true false = refl

  -- an item passes exactly where there is a first that does
  pub is_some-position : (xs : List X) → is_some (position p xs) ≡ list_any p xs
  is_some-position [] = refl
  is_some-position (x ∷ xs) = by (position p (x ∷ xs)) refl
    where
      by : (o : Option ℕ) → position p (x ∷ xs) ≡ o → is_some o ≡ list_any p (x ∷ xs)
      by None e = sym (any_nowhere (x ∷ xs) (position-None (x ∷ xs) e))
      by (Some i) e = let at = position-Some p (x ∷ xs) i x e in sym (any_at (x ∷ xs) i x at.0 at.1)

less_irreflexive : (a : List ℕ) → slice_cmp nat_cmp a a ≡ Less → ⊥
less_irreflexive = text_not_itself

equal_texts : (a b : List ℕ) → slice_cmp nat_cmp a b ≡ Equal → a ≡ b
equal_texts = text_tied

false_from : {P : Type 0} (b : Bool) → Decides b P → (P → ⊥) → b ≡ false
false_from true d never = absurd (never (d.0 refl))
false_from false d never = refl

pub other_text : (a s : List ℕ) → (a ≡ s → ⊥) → bytes_eq a s ≡ false
other_text a s never = false_from (bytes_eq a s) (bytes_eq-Decides a s) never

module _ {X : Type 0} (key : X → Place) where
  pub rising_at : (xs : List X) → AreRising (map key xs) → (k i : ℕ) (d : X) → k < i → i < length xs → slice_cmp nat_cmp (place_text (key (get_or xs k d))) (place_text (key (get_or xs i d))) ≡ Less
  unfolding IsStrictlySortedBy
  rising_at [] up k i d less within = let no : ⊥ = omega arith in absurd no
  rising_at (x ∷ xs) up k zero d less within = let no : ⊥ = omega arith in absurd no
  rising_at (x ∷ xs) up zero (suc i) d less within =
      let later = all_unmap (λ q. on place_text (slice_cmp nat_cmp) (key x) q ≡ Less) key xs up.0 in
      all_at (λ y. on place_text (slice_cmp nat_cmp) (key x) (key y) ≡ Less) xs i d (omega arith) later
  rising_at (x ∷ xs) up (suc k) (suc i) d less within = rising_at xs up.1 k i d (omega arith) (omega arith)

  -- no two entries have one text
  pub one_place : (xs : List X) → AreRising (map key xs) → (k i : ℕ) (d : X) (s : List ℕ) → k < i → i < length xs → place_text (key (get_or xs i d)) ≡ s → has_text s (key (get_or xs k d)) ≡ false
  one_place xs up k i d s less within here =
      other_text _ s (λ e. less_irreflexive s (subst (λ t. slice_cmp nat_cmp s t ≡ Less) here (subst (λ t. slice_cmp nat_cmp t (place_text (key (get_or xs i d))) ≡ Less) e (rising_at xs up k i d less within))))

  not_after : (a b : List ℕ) → slice_cmp nat_cmp a b ≡ Less → is_lt (slice_cmp nat_cmp b a) ≡ false
  not_after a b h = by (slice_cmp nat_cmp b a) (sym (nat_list_cmp_total.antisymm a b) ∙ h)
    where
      by : (o : Ordering) → ordering_reverse o ≡ Less → is_lt o ≡ false
      by Less e = let no : Greater ≡ Less = e in absurd (cc)
      by Equal e = refl
      by Greater e = refl

  pub search-position : (s : List ℕ) (xs : List X) → AreRising (map key xs) → (r : Result ℕ ℕ) → IsSearchInRange r (length xs) → IsBinarySearchResult (λ x. slice_cmp nat_cmp (place_text (key x)) s) xs r → result_ok r ≡ position (λ x. has_text s (key x)) xs
  search-position s xs up (Ok i) within at =
      sym (position-at (λ x. has_text s (key x)) xs i within
      (λ d. (bytes_eq-Decides (place_text (key (get_or xs i d))) s).1 (equal_texts _ s (at d)))
      (λ k d less. one_place xs up k i d s less within (equal_texts _ s (at d))))
  search-position s xs up (Err i) within at =
      let cut = at (searchable_from_sorted nat_list_cmp_total (λ x. place_text (key x)) xs s (λ k d a b. not_after (place_text (key (get_or xs k d))) (place_text (key (get_or xs (k + 1) d))) (rising_at xs up k (k + 1) d (omega arith) b))) in
      sym (position-nowhere (λ x. has_text s (key x)) xs (λ k d inside. other_text _ s (λ e. at_side k d e (side k i) cut inside)))
    where
      side : (k i : ℕ) → (k < i) ⊎ (i ≤ k)
      side k i = grind arith

      not_greater : (t : List ℕ) → slice_cmp nat_cmp t t ≡ Greater → ⊥
      not_greater t h = by (slice_cmp nat_cmp t t) h (nat_list_cmp_total.antisymm t t)
        where
          by : (o : Ordering) → o ≡ Greater → o ≡ ordering_reverse o → ⊥
          by Less e r = cc
          by Equal e r = cc
          by Greater e r = let wrong : Greater ≡ Less = r in cc

      at_side : (k : ℕ) (d : X) → place_text (key (get_or xs k d)) ≡ s → (k < i) ⊎ (i ≤ k) → IsPartitionPoint (λ y. slice_cmp nat_cmp (place_text (key y)) s ≡ Less) (λ y. slice_cmp nat_cmp (place_text (key y)) s ≡ Greater) xs i → k < length xs → ⊥
      at_side k d e (inl lower) cut inside = less_irreflexive s (subst (λ t. slice_cmp nat_cmp t s ≡ Less) e (cut.0 k d (omega arith) lower))
      at_side k d e (inr upper) cut inside = not_greater s (subst (λ t. slice_cmp nat_cmp t s ≡ Greater) e (cut.1 k d upper inside))

  none_here : (q : X → Bool) (s : List ℕ) (xs : List X) → ((k : ℕ) (d : X) → k < length xs → has_text s (key (get_or xs k d)) ≡ false) → list_any (λ x. has_text s (key x) && q x) xs ≡ false
  none_here q s [] f = refl
  none_here q s (x ∷ xs) f =
      let first : has_text s (key x) ≡ false = f 0 x (omega arith) in
      λ i. (first i && q x) || none_here q s xs (λ k d h. f (suc k) d (omega arith)) i

  asked_at : (q : X → Bool) (s : List ℕ) (xs : List X) → AreRising (map key xs) → (i : ℕ) (d : X) → i < length xs → place_text (key (get_or xs i d)) ≡ s → list_any (λ x. has_text s (key x) && q x) xs ≡ q (get_or xs i d)
  unfolding IsStrictlySortedBy
  asked_at q s [] up i d within here = let no : ⊥ = omega arith in absurd no
  asked_at q s (x ∷ xs) up zero d within here =
      let first : has_text s (key x) ≡ true = (bytes_eq-Decides (place_text (key x)) s).1 here in
      let rest = none_here q s xs (λ k e h. after_first k e h) in
      (λ i. (first i && q x) || rest i) ∙ or_false (q x)
    where
      or_false : (b : Bool) → (b || false) ≡ b
      or_false true = refl
      or_false false = refl

      after_first : (k : ℕ) (e : X) → k < length xs → has_text s (key (get_or xs k e)) ≡ false
      after_first k e h =
          other_text _ s (λ same. less_irreflexive s (subst (λ t. slice_cmp nat_cmp t s ≡ Less) here (subst (λ t. slice_cmp nat_cmp (place_text (key x)) t ≡ Less) same (rising_at (x ∷ xs) up 0 (suc k) e (omega arith) (omega arith)))))
  asked_at q s (x ∷ xs) up (suc i) d within here =
      let first : has_text s (key x) ≡ false = one_place (x ∷ xs) up 0 (suc i) d s (omega arith) within here in
      (λ j. (first j && q x) || list_any (λ y. has_text s (key y) && q y) xs) ∙ asked_at q s xs up.1 i d (omega arith) here

  -- what is asked of the entries at a place is asked of the one that is found
  pub asked-found : (q : X → Bool) (s : List ℕ) (xs : List X) → AreRising (map key xs) → (i : ℕ) (d : X) → position (λ x. has_text s (key x)) xs ≡ Some i → list_any (λ x. has_text s (key x) && q x) xs ≡ q (get_or xs i d)
  asked-found q s xs up i d e =
      let at = position-Some (λ x. has_text s (key x)) xs i d e in
      asked_at q s xs up i d at.0 ((bytes_eq-Decides (place_text (key (get_or xs i d))) s).0 at.1)

  pub asked-none : (q : X → Bool) (s : List ℕ) (xs : List X) → position (λ x. has_text s (key x)) xs ≡ None → list_any (λ x. has_text s (key x) && q x) xs ≡ false
  asked-none q s xs e = none_here q s xs (position-None (λ x. has_text s (key x)) xs e)

  -- the answers of a look-up
  pub found-answer : (q : X → Bool) (s : List ℕ) (xs ys : List X) → ys ≡ xs → AreRising (map key xs) → (i : ℕ) (x : X) → Some i ≡ position (λ y. has_text s (key y)) ys → x ≡ get_or ys i x → (r : Bool) → r ≡ q x → r ≡ list_any (λ y. has_text s (key y) && q y) xs
  found-answer q s xs ys same up i x e is r h =
      let at : x ≡ get_or xs i x = subst (λ zs. x ≡ get_or zs i x) same is in
      let found : position (λ y. has_text s (key y)) xs ≡ Some i = sym (subst (λ zs. Some i ≡ position (λ y. has_text s (key y)) zs) same e) in
      h ∙ ap q at ∙ sym (asked-found q s xs up i x found)

  pub none-answer : (q : X → Bool) (s : List ℕ) (xs ys : List X) → ys ≡ xs → None ≡ position (λ y. has_text s (key y)) ys → false ≡ list_any (λ y. has_text s (key y) && q y) xs
  none-answer q s xs ys same e = sym (asked-none q s xs (sym (subst (λ zs. None ≡ position (λ y. has_text s (key y)) zs) same e)))
