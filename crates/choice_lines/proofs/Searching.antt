-- The one change at a path.
use Rattle.std.proofs.Common.{◌≡◌, ◌≢◌, ℕ, zero, suc, ◌+◌, ◌<◌, false, List, [], ◌∷◌, length, get_or, refl, sym, ap, ◌∙◌, arith, inl, inr}
use Rattle.std.specs.List.{Contains}
use Rattle.std.specs.List.Sorted.{IsStrictlySortedBy, IsBinarySearchResult}
use Rattle.std.specs.Cmp.Lexicographic.{slice_cmp, nat_list_cmp_total}
use Rattle.std.specs.Ordering.{nat_cmp, is_lt}
use Rattle.std.specs.declared.cmp.Ordering.{Ordering}
use Rattle.std.specs.declared.cmp.Ordering.TheVariants.{Less, Equal, Greater}
use Rattle.std.specs.declared.result.Result.TheVariants.{Err}
use Rattle.std.proofs.lemmas.Bool.{cases_lt}
use Rattle.std.proofs.lemmas.List.Sorted.{searchable_from_sorted}
use Rattle.list_laws.proofs.Alls.{all_at, all_item, all_unmap}
use Rattle.list_laws.proofs.Containing.{contains_none, contains_cases, map_contains}
use Rattle.list_laws.proofs.Orders.{text_less-apart, text_tie, text_not_both}
use Rattle.manifest_json.specs.Paths.{AreRising}
use Rattle.change_detect.specs.declared.changes.Change.{Change}
use Rattle.change_detect.specs.Changes.{change_paths}

-- the first change's path isn't among the others'
not_later : (x c : Change) (xs : List Change) → AreRising (change_paths (x ∷ xs)) → Contains xs c → x.path ≡ c.path → ⊥
unfolding IsStrictlySortedBy
not_later x c xs order among same =
    text_less-apart x.path c.path (all_item (λ p. slice_cmp nat_cmp x.path p ≡ Less) (change_paths xs) c.path order.0 (map_contains (λ (y : Change). y.path) xs c among)) same

pub one_change : (changes : List Change) (c d : Change) → AreRising (change_paths changes) → Contains changes c → Contains changes d → c.path ≡ d.path → c ≡ d
unfolding IsStrictlySortedBy
one_change [] c d order here there same = absurd (contains_none c here)
one_change (x ∷ xs) c d order here there same =
    elim (contains_cases x c xs here) [
      | inl at ↦ elim (contains_cases x d xs there) [
        | inl too ↦ at ∙ sym too
        | inr later ↦ absurd (not_later x d xs order later (ap (λ (y : Change). y.path) (sym at) ∙ same))
      ]
      | inr later ↦ elim (contains_cases x d xs there) [
        | inl too ↦ absurd (not_later x c xs order later (ap (λ (y : Change). y.path) (sym too) ∙ sym same))
        | inr both ↦ one_change xs c d order.1 later both same
      ]
    ]

-- the index of a change
index_in : (xs : List Change) (c : Change) → Contains xs c → (k : ℕ) × (k < length xs) × ((d : Change) → get_or xs k d ≡ c)
index_in [] c among = absurd (contains_none c among)
index_in (x ∷ xs) c among = elim (contains_cases x c xs among) [
  | inl is ↦ (0, omega arith, λ d. sym is)
  | inr later ↦ (let at = index_in xs c later in (suc at.0, omega arith, at.2))
]

-- of two neighbours the second isn't below the first
rises : (xs : List Change) → AreRising (change_paths xs) → (k j : ℕ) (d : Change) → j ≡ k + 1 → j < length xs → slice_cmp nat_cmp (get_or xs k d).path (get_or xs j d).path ≡ Less
unfolding IsStrictlySortedBy
rises [] order k j d next low = absurd (omega arith)
rises (x ∷ xs) order k zero d next low = absurd (omega arith)
rises (x ∷ xs) order zero (suc m) d next low = all_at (λ (y : Change). slice_cmp nat_cmp x.path y.path ≡ Less) xs m d (omega arith) (all_unmap (λ p. slice_cmp nat_cmp x.path p ≡ Less) (λ (y : Change). y.path) xs order.0)
rises (x ∷ xs) order (suc k) (suc m) d next low = rises xs order.1 k m d (omega arith) (omega arith)

not_below : (a b : List ℕ) → slice_cmp nat_cmp a b ≡ Less → is_lt (slice_cmp nat_cmp b a) ≡ false
not_below a b less = by (slice_cmp nat_cmp b a) refl
  where
    by : (o : Ordering) → slice_cmp nat_cmp b a ≡ o → is_lt o ≡ false
    by Less e = absurd (text_not_both a b less e)
    by Equal e = refl
    by Greater e = refl

-- a search that finds nothing: no change has the path
pub nowhere : (changes : List Change) (text : List ℕ) (i : ℕ) → AreRising (change_paths changes) → IsBinarySearchResult (λ (c : Change). slice_cmp nat_cmp c.path text) changes (Err i) → (c : Change) → Contains changes c → c.path ≢ text
nowhere changes text i order found c among same =
    let at = index_in changes c among in
    let cut = found (searchable_from_sorted nat_list_cmp_total (λ (y : Change). y.path) changes text (λ k d e low. not_below (get_or changes k d).path (get_or changes (k + 1) d).path (rises changes order k (k + 1) d refl low))) in
    let tied : slice_cmp nat_cmp (get_or changes at.0 c).path text ≡ Equal = text_tie (get_or changes at.0 c).path text (ap (λ (y : Change). y.path) (at.2 c) ∙ same) in
    elim (cases_lt at.0 i) [
      | inl lower ↦ (let below : slice_cmp nat_cmp (get_or changes at.0 c).path text ≡ Less = cut.0 at.0 c (omega arith) lower in let no : Less ≡ Equal = sym below ∙ tied in cc)
      | inr upper ↦ (let above : slice_cmp nat_cmp (get_or changes at.0 c).path text ≡ Greater = cut.1 at.0 c upper at.1 in let no : Greater ≡ Equal = sym above ∙ tied in cc)
    ]
