-- What a search finds in a list that is in the order of its paths.
use Rattle.std.proofs.Common.{◌≡◌, ◌≢◌, ◌⊎◌, ℕ, zero, suc, ◌+◌, ◌<◌, ◌≤◌, Bool, true, false, true≢false, List, [], ◌∷◌, length, map, get_or, take, drop, refl, sym, ap, ◌∙◌, subst, arith, inl, inr}
use Rattle.std.specs.Result.{is_ok}
use Rattle.std.specs.Prelude.{IsTrue, ◌↔◌}
use Rattle.std.specs.List.{AllByRecursion, Contains, take-map}
use Rattle.std.specs.List.Sorted.{IsStrictlySortedBy, IsBinarySearchResult, IsSearchInRange, IsPartitionPoint, IsPartitionedBy}
use Rattle.std.specs.Cmp.{IsTotalOrder}
use Rattle.std.specs.Ordering.{nat_cmp, is_lt, ordering_reverse}
use Rattle.std.specs.Cmp.Lexicographic.{slice_cmp, nat_list_cmp_total}
use Rattle.std.specs.declared.cmp.Ordering.{Ordering}
use Rattle.std.specs.declared.cmp.Ordering.TheVariants.{Less, Equal, Greater}
use Rattle.std.specs.declared.result.Result.{Result}
use Rattle.std.specs.declared.result.Result.TheVariants.{Ok, Err}
use Rattle.std.proofs.lemmas.Cmp.{tied_itself}
use Rattle.std.proofs.lemmas.Bool.{cases_lt}
use Rattle.std.proofs.lemmas.List.{get_or-map, drop_more, drop-map, length-map, length-drop, nil_from_length}
use Rattle.std.proofs.lemmas.List.Elements.{Contains-get_or, recursion_from_All}
use Rattle.std.proofs.lemmas.List.Sorted.{searchable_from_sorted}
use Rattle.std.proofs.lemmas.Map.Keys.{Less-from_sorted}
use Rattle.list_laws.proofs.Alls.{all_map}
use Rattle.list_laws.proofs.Containing.{contains_map, map_contains, contains_cases, contains_none}
use Rattle.list_laws.proofs.Orders.{less-from_test, text_tied}
use Rattle.manifest_json.specs.Paths.{AreRising}
use Rattle.winner_table.specs.Folders.{IsFirstNotBelow}
use Rattle.plan_lists.specs.Search.{turned_cmp, AreFalling}

-- the index of an item
place_in : {X : Type 0} (xs : List X) (x : X) → Contains xs x → (k : ℕ) × (k < length xs) × ((d : X) → get_or xs k d ≡ x)
place_in [] x c = absurd (contains_none x c)
place_in (y ∷ ys) x c = elim (contains_cases y x ys c) [
  | inl e ↦ (0, omega arith, λ d. sym e)
  | inr more ↦ (let at = place_in ys x more in (suc at.0, omega arith, at.2))
]

module _ {X : Type 0} (R : List ℕ → List ℕ → Ordering) (total : IsTotalOrder R) (key : X → List ℕ) (xs : List X) (order : IsStrictlySortedBy R (map key xs)) where
  key_at : (k : ℕ) (d : X) → k < length xs → get_or (map key xs) k (key d) ≡ key (get_or xs k d)
  key_at k d low = get_or-map key xs k d (key d) low

  less_at : (i j : ℕ) (d : X) → i < j → j < length xs → R (key (get_or xs i d)) (key (get_or xs j d)) ≡ Less
  less_at i j d low high =
      let n : length (map key xs) ≡ length xs = simp length-map in
      (λ k. R (sym (key_at i d (omega arith)) k) (sym (key_at j d high) k)) ∙ Less-from_sorted R (map key xs) i j (key d) order low (omega (arith, n))

  not_turned : (a b : List ℕ) → R a b ≡ Less → is_lt (R b a) ≡ false
  not_turned a b h = by (R b a) (sym (total.antisymm a b) ∙ h)
    where
      by : (o : Ordering) → ordering_reverse o ≡ Less → is_lt o ≡ false
      by Less e = let no : Greater ≡ Less = e in absurd (cc)
      by Equal e = refl
      by Greater e = refl

  module _ (tied : (a b : List ℕ) → R a b ≡ Equal → a ≡ b) (s : List ℕ) where
    itself : (t : List ℕ) (o : Ordering) → o ≢ Equal → t ≡ s → R t s ≡ o → ⊥
    itself t o ne e is = ne (sym is ∙ ap (R t) (sym e) ∙ tied_itself total t)

    nowhere : (i : ℕ) → IsPartitionPoint (λ y. R (key y) s ≡ Less) (λ y. R (key y) s ≡ Greater) xs i → Contains (map key xs) s → ⊥
    nowhere i cut c =
        let x = contains_map key xs s c in
        let at = place_in xs x.0 x.1 in
        let here : key (get_or xs at.0 x.0) ≡ s = ap key (at.2 x.0) ∙ x.2 in
        by_side at.0 x.0 at.1 here (cases_lt at.0 i)
      where
        by_side : (k : ℕ) (d : X) → k < length xs → key (get_or xs k d) ≡ s → (k < i) ⊎ (i ≤ k) → ⊥
        by_side k d within here (inl lower) = itself (key (get_or xs k d)) Less (λ e. cc) here (cut.0 k d (omega arith) lower)
        by_side k d within here (inr upper) = itself (key (get_or xs k d)) Greater (λ e. cc) here (cut.1 k d upper within)

    pub searched : (r : Result ℕ ℕ) → IsSearchInRange r (length xs) → IsBinarySearchResult (λ x. R (key x) s) xs r → (b : Bool) → b ≡ is_ok r → IsTrue b ↔ Contains (map key xs) s
    searched (Ok i) within at b is = (
      λ t. found i within at,
      λ c. is,
    )
      where
        found : (i : ℕ) → i < length xs → ((d : X) → R (key (get_or xs i d)) s ≡ Equal) → Contains (map key xs) s
        found i low h = by_list xs low h
          where
            by_list : (ys : List X) → i < length ys → ((d : X) → R (key (get_or ys i d)) s ≡ Equal) → Contains (map key ys) s
            by_list [] low h = let no : ⊥ = omega arith in absurd no
            by_list (y ∷ ys) low h = subst (λ t. Contains (map key (y ∷ ys)) t) (tied (key (get_or (y ∷ ys) i y)) s (h y)) (map_contains key (y ∷ ys) (get_or (y ∷ ys) i y) (Contains-get_or (y ∷ ys) i y low))
    searched (Err i) within at b is = (
      λ t. absurd (true≢false (sym t ∙ is)),
      λ c. absurd (nowhere i (at (searchable_from_sorted total key xs s (λ k d a low. not_turned (key (get_or xs k d)) (key (get_or xs (k + 1) d)) (less_at k (k + 1) d (omega arith) low)))) c),
    )

pub text_searched : {X : Type 0} (key : X → List ℕ) (xs : List X) → AreRising (map key xs) → (s : List ℕ) (r : Result ℕ ℕ) → IsSearchInRange r (length xs) → IsBinarySearchResult (λ x. slice_cmp nat_cmp (key x) s) xs r → (b : Bool) → b ≡ is_ok r → IsTrue b ↔ Contains (map key xs) s
text_searched key xs order s = searched (slice_cmp nat_cmp) nat_list_cmp_total key xs order text_tied s

turned_total : IsTotalOrder turned_cmp
turned_total = record {
  antisymm = λ x y. nat_list_cmp_total.antisymm y x;
  trans = λ x y z a b. nat_list_cmp_total.trans z y x b a;
  congr = λ x y z e. ap (λ t. slice_cmp nat_cmp z t) (sym (text_tied y x e));
}

map_id : (xs : List (List ℕ)) → map (λ x. x) xs ≡ xs
map_id [] = refl
map_id (x ∷ xs) = ap (λ l. x ∷ l) (map_id xs)

pub falling_searched : (xs : List (List ℕ)) → AreFalling xs → (s : List ℕ) (r : Result ℕ ℕ) → IsSearchInRange r (length xs) → IsBinarySearchResult (λ x. slice_cmp nat_cmp s x) xs r → (b : Bool) → b ≡ is_ok r → IsTrue b ↔ Contains xs s
falling_searched xs order s r within at b is =
    subst (λ l. IsTrue b ↔ Contains l s) (map_id xs)
    (searched turned_cmp turned_total (λ x. x) xs (subst AreFalling (sym (map_id xs)) order) (λ a b e. sym (text_tied b a e)) s r within at b is)

-- Parting a list at a text

module _ {X : Type 0} (key : X → List ℕ) (text : List ℕ) (xs : List X) where
  abbrev pub is_low : X → Bool
  is_low x = is_lt (slice_cmp nat_cmp (key x) text)

  front_from : (P : X → Type 0) (ys : List X) (i : ℕ) → i ≤ length ys → ((k : ℕ) (d : X) → k < i → P (get_or ys k d)) → AllByRecursion P (take i ys)
  front_from P [] zero low h = tt
  front_from P [] (suc i) low h = tt
  front_from P (y ∷ ys) zero low h = tt
  front_from P (y ∷ ys) (suc i) low h = (h 0 y (omega arith), front_from P ys i (omega arith) (λ k d less. h (suc k) d (omega arith)))

  back_from : (P : X → Type 0) (ys : List X) (i : ℕ) → ((k : ℕ) (d : X) → i ≤ k → k < length ys → P (get_or ys k d)) → AllByRecursion P (drop i ys)
  back_from P ys zero h = recursion_from_All P ys (λ k d less. h k d (omega arith) less)
  back_from P [] (suc i) h = tt
  back_from P (y ∷ ys) (suc i) h = back_from P ys i (λ k d more less. h (suc k) d (omega arith) (omega arith))

  less_not : (o : Ordering) → is_lt o ≡ false → o ≡ Less → ⊥
  less_not o e is = let t : true ≡ false = ap is_lt (sym is) ∙ e in cc

  pub parted : AreRising (map key xs) → IsPartitionedBy is_low xs
  parted order i j d low high e = elim (below_or_same i j low) [
    | inl less ↦ ap is_lt (nat_list_cmp_total.trans (key (get_or xs i d)) (key (get_or xs j d)) text (less_at (slice_cmp nat_cmp) nat_list_cmp_total key xs order i j d less high) (less-from_test (slice_cmp nat_cmp (key (get_or xs j d)) text) e))
    | inr same ↦ ap (λ k. is_low (get_or xs k d)) same ∙ e
  ]
    where
      below_or_same : (i j : ℕ) → i ≤ j → (i < j) ⊎ (i ≡ j)
      below_or_same i j low = elim (cases_lt i j) [ inl h ↦ inl h | inr h ↦ inr (omega arith) ]

  pub point_is : (i : ℕ) → i ≤ length xs → IsPartitionPoint (λ y. is_low y ≡ true) (λ y. is_low y ≡ false) xs i → IsFirstNotBelow text (map key xs) i
  point_is i low h = record {
    within = let n : length (map key xs) ≡ length xs = simp length-map in omega (arith, n);
    below = subst (AllByRecursion (λ path. slice_cmp nat_cmp path text ≡ Less)) (sym (take-map key i xs))
        (all_map (λ path. slice_cmp nat_cmp path text ≡ Less) key (take i xs)
        (front_from (λ x. slice_cmp nat_cmp (key x) text ≡ Less) xs i low (λ k d less. less-from_test (slice_cmp nat_cmp (key (get_or xs k d)) text) (h.0 k d (omega arith) less))));
    not_below = subst (AllByRecursion (λ path. slice_cmp nat_cmp path text ≢ Less)) (sym (drop-map key i xs))
        (all_map (λ path. slice_cmp nat_cmp path text ≢ Less) key (drop i xs)
        (back_from (λ x. slice_cmp nat_cmp (key x) text ≢ Less) xs i (λ k d more less. less_not (slice_cmp nat_cmp (key (get_or xs k d)) text) (h.1 k d more less))));
  }

pub keys_from : {X : Type 0} (key : X → List ℕ) (xs : List X) (i : ℕ) (x : X) → i < length xs → x ≡ get_or xs i x → drop i (map key xs) ≡ key x ∷ map key (drop (i + 1) xs)
keys_from key xs i x low is = drop-map key i xs ∙ ap (map key) (drop_more xs i x low ∙ ap (λ r. r ∷ drop (i + 1) xs) (sym is))

pub keys_past : {X : Type 0} (key : X → List ℕ) (xs : List X) (i : ℕ) → length xs ≤ i → drop i (map key xs) ≡ []
keys_past key xs i low = nil_from_length (drop i (map key xs)) (let n : length (map key xs) ≡ length xs = simp length-map in omega (arith, n, length-drop i (map key xs)))
