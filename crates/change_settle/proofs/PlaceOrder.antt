-- Places in their order: what sorting leaves, and what a search finds.
use Rattle.std.proofs.Common.{◌≡◌, ◌↔◌, IsTrue, ℕ, Bool, List, [], ◌∷◌, length, map, nat_eq, sym, subst}
use Rattle.std.specs.List.{Contains, dedup}
use Rattle.std.specs.List.Sorted.{IsSorted, IsPermutation, IsStrictlySortedBy, IsBinarySearchResult, IsSearchInRange}
use Rattle.std.specs.Ordering.{on, nat_cmp}
use Rattle.std.specs.Result.{is_ok}
use Rattle.std.specs.Cmp.Lexicographic.{slice_cmp, pointwise, nat_list_cmp_total, on_texts, on_texts_equal}
use Rattle.std.specs.declared.cmp.Ordering.TheVariants.{Less}
use Rattle.std.specs.declared.result.Result.{Result}
use Rattle.std.proofs.lemmas.List.Kept.{IsStrictlySortedBy-dedup, Contains-dedup, Contains-from_dedup}
use Rattle.std.proofs.lemmas.List.Sorted.{Contains-permutation, IsPermutation-sym}
use Rattle.std.proofs.lemmas.Map.Text.{is_eq-slice_cmp}
use Rattle.std.proofs.lemmas.Slice.Eq.{bytes_eq-Decides}
use Rattle.list_laws.proofs.Alls.{all_map}
use Rattle.list_laws.proofs.Containing.{contains_map, map_contains}
use Rattle.list_laws.proofs.Orders.{text_tied}
use Rattle.tree_fs.specs.declared.place.Place.{Place}
use Rattle.tree_fs.specs.Texts.{place_text}
use Rattle.tree_fs.proofs.Texts.{place_text-same}
use Rattle.move_plan.specs.Rising.{AreRising}
use Rattle.plan_lists.proofs.Searched.{searched}

module _ (places sorted left : List Place) (moved : IsPermutation places sorted) (is : left ≡ dedup (on place_text (pointwise nat_eq)) sorted) where
  pub places_rise : IsSorted (on place_text (slice_cmp nat_cmp)) sorted → AreRising left
  places_rise s = subst AreRising (sym is) (IsStrictlySortedBy-dedup (on_texts place_text) (λ x y. sym (is_eq-slice_cmp (place_text x) (place_text y))) sorted s)

  pub places_same : (p : Place) → (Contains left p ↔ Contains places p)
  places_same p = (
    λ c. Contains-permutation sorted places p (IsPermutation-sym places sorted moved) (Contains-from_dedup (on place_text (pointwise nat_eq)) sorted p (subst (λ l. Contains l p) is c)),
    λ c. subst (λ l. Contains l p) (sym is) (Contains-dedup (on_texts_equal place_text) (λ x y e. place_text-same x y ((bytes_eq-Decides (place_text x) (place_text y)).0 e)) sorted p (Contains-permutation places sorted p moved c)),
  )

texts_rise : (ps : List Place) → AreRising ps → IsStrictlySortedBy (slice_cmp nat_cmp) (map place_text ps)
unfolding IsStrictlySortedBy
texts_rise [] rise = tt
texts_rise (p ∷ ps) rise = (all_map (λ t. slice_cmp nat_cmp (place_text p) t ≡ Less) place_text ps rise.0, texts_rise ps rise.1)

pub place_searched : (ps : List Place) → AreRising ps → (p : Place) (r : Result ℕ ℕ) → IsSearchInRange r (length ps) → IsBinarySearchResult (λ q. slice_cmp nat_cmp (place_text q) (place_text p)) ps r → (b : Bool) → b ≡ is_ok r → IsTrue b ↔ Contains ps p
place_searched ps rise p r within at b is =
    let found = searched (slice_cmp nat_cmp) nat_list_cmp_total place_text ps (texts_rise ps rise) text_tied (place_text p) r within at b is in (
      λ t. let m = contains_map place_text ps (place_text p) (found.0 t) in subst (Contains ps) (place_text-same m.0 p m.2) m.1,
      λ c. found.1 (map_contains place_text ps p c),
    )
