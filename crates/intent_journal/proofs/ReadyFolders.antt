-- The parents of places, and the folders that they are, each once.
use Rattle.std.proofs.Common.{◌≡◌, ◌⊎◌, ℕ, ◌+◌, ◌<◌, Bool, true, false, if◌then◌else◌, List, [], ◌∷◌, ◌++◌, map, take, length, get_or, None, Some, Result, Ok, Err, IfOk, sym, ap, ◌∙◌, inl, inr, subst, IsSorted}
use Rattle.std.specs.Prelude.{nat_eq}
use Rattle.std.specs.List.{Contains, dedup}
use Rattle.std.specs.List.Sorted.{IsPermutation, IsStrictlySortedBy}
use Rattle.std.specs.Ordering.{on, nat_cmp}
use Rattle.std.specs.Cmp.Lexicographic.{pointwise, slice_cmp, on_texts, on_texts_equal, texts_ties}
use Rattle.std.proofs.lemmas.List.Elements.{Contains-append_left}
use Rattle.std.proofs.lemmas.List.Kept.{Contains-dedup, Contains-from_dedup, IsStrictlySortedBy-dedup}
use Rattle.std.proofs.lemmas.List.Sorted.{Contains-permutation, IsPermutation-sym}
use Rattle.list_laws.proofs.Containing.{contains_map, map_contains, in_next, contains_seam}
use Rattle.list_laws.proofs.Lists.{one_more}
use Rattle.tree_fs.specs.declared.place.Place.{Place}
use Rattle.tree_fs.specs.Spot.{Spot, spot_of, parent}
use Rattle.tree_fs.specs.Places.{folder_above}
use Rattle.tree_fs.specs.Texts.{place_text}
use Rattle.tree_fs.proofs.Spots.{root_or_below, is_entry_tells}
use Rattle.tree_fs.proofs.Texts.{place_eq_tells}
use Rattle.intent_journal.specs.Ready.{AreParents, AreFolders}

-- what has no folder above it lies in itself
pub no_folder_above : (q : Spot) → None ≡ folder_above q → parent q ≡ q
no_folder_above q none = elim (root_or_below q) [
  | inl root ↦ root.1
  | inr entry ↦ elim (is_entry_tells (parent q) q) [
    | inl some ↦ (let t : None ≡ Some (parent q) = none ∙ ap (λ b. if b then Some (parent q) else None) some.2 in absurd (cc))
    | inr out ↦ absurd (out.1 entry.0 entry.1)
  ]
]

-- the copies of a list so far

pub copies_all : (places list new : List Place) (i : ℕ) (x : Place) → i < length places → x ≡ get_or places i x → ((p : Place) → Contains list p → Contains new p) → Contains new x
    → ((p : Place) → Contains (take i places) p → Contains list p) → (p : Place) → Contains (take (i + 1) places) p → Contains new p
copies_all places list new i x lt is kept here inv p c = elim (in_next places i x p lt is c) [ inl old ↦ kept p (inv p old) | inr e ↦ subst (λ y. Contains new y) (sym e) here ]

pub copies_only : (places list new : List Place) (i : ℕ) (x : Place) → i < length places → x ≡ get_or places i x → ((p : Place) → Contains new p → Contains list p ⊎ (p ≡ x))
    → ((p : Place) → Contains list p → Contains (take i places) p) → (p : Place) → Contains new p → Contains (take (i + 1) places) p
copies_only places list new i x lt is only inv p c = subst (λ l. Contains l p) (sym (one_more places i x lt is)) (elim (only p c) [
  | inl old ↦ Contains-append_left (take i places) (x ∷ []) p (inv p old)
  | inr e ↦ subst (λ y. Contains (take i places ++ x ∷ []) y) (sym e) (contains_seam (take i places) x [])
])

-- a list that is sorted, without doubles

abbrev pub place_eq : Place → Place → Bool
place_eq = on place_text (pointwise nat_eq)

eq_same : (x y : Place) → on place_text (pointwise nat_eq) x y ≡ true → x ≡ y
eq_same x y e = elim (place_eq_tells x y) [ inl same ↦ same.1 | inr apart ↦ (let t : true ≡ false = sym e ∙ apart.0 in absurd (cc)) ]

pub sorted_all : (list sorted : List Place) → IsPermutation list sorted → (p : Place) → Contains list p → Contains (dedup (on place_text (pointwise nat_eq)) sorted) p
sorted_all list sorted moved p c = Contains-dedup (on_texts_equal place_text) eq_same sorted p (Contains-permutation list sorted p moved c)

pub sorted_only : (list sorted : List Place) → IsPermutation list sorted → (p : Place) → Contains (dedup (on place_text (pointwise nat_eq)) sorted) p → Contains list p
sorted_only list sorted moved p c = Contains-permutation sorted list p (IsPermutation-sym list sorted moved) (Contains-from_dedup (on place_text (pointwise nat_eq)) sorted p c)

pub sorted_rise : (sorted : List Place) → IsSorted (on place_text (slice_cmp nat_cmp)) sorted → IsStrictlySortedBy (on place_text (slice_cmp nat_cmp)) (dedup (on place_text (pointwise nat_eq)) sorted)
sorted_rise sorted h = IsStrictlySortedBy-dedup (on_texts place_text) (λ x y. texts_ties (place_text x) (place_text y)) sorted h

-- the folders of places, by their parents
pub are_folders : (places above folders : List Place) → AreParents places above → ((p : Place) → Contains above p → Contains folders p) → ((p : Place) → Contains folders p → Contains above p)
    → IsStrictlySortedBy (on place_text (slice_cmp nat_cmp)) folders → AreFolders places folders
are_folders places above folders parents all only rise = record {
  all = λ x is.
      let under : Contains (map spot_of above) x = subst (λ l. Contains l x) (sym parents) (subst (λ y. Contains (map (λ (p : Place). parent (spot_of p)) places) y) is.here (map_contains (λ (p : Place). parent (spot_of p)) places is.place is.listed)) in
      let found = contains_map spot_of above x under in
      record { place = found.0; listed = all found.0 found.1; here = found.2 };
  only = λ x has.
      let under : Contains (map (λ (p : Place). parent (spot_of p)) places) x = subst (λ l. Contains l x) parents (subst (λ y. Contains (map spot_of above) y) has.here (map_contains spot_of above has.place (only has.place has.listed))) in
      let found = contains_map (λ (p : Place). parent (spot_of p)) places x under in
      record { place = found.0; listed = found.1; here = found.2 };
  rise = rise;
}

-- a copy of a place that lies in itself
pub on_copy : {E : Type 0} (r : Result Place E) (place : Place) → IfOk r (λ p. p ≡ place) → parent (spot_of place) ≡ spot_of place → IfOk r (λ above. spot_of above ≡ parent (spot_of place))
on_copy (Ok p) place is self = ap spot_of is ∙ sym self
on_copy (Err e) place is self = tt
