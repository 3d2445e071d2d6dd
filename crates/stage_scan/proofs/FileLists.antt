-- Lists of files: what a test of their order tells, and what sorting leaves.
use Rattle.std.proofs.Common.{◌≡◌, ◌↔◌, ℕ, ◌+◌, ◌<◌, Bool, true, false, IsTrue, nat_eq, List, [], length, get_or, sym, refl, ap, ◌∙◌, subst, arith, true≢false}
use Rattle.std.specs.List.{AllByRecursion, Contains, IsAllAdjacentAnswer, dedup}
use Rattle.std.specs.List.Sorted.{IsSorted, IsPermutation}
use Rattle.std.specs.Ordering.{nat_cmp, is_lt}
use Rattle.std.specs.Cmp.Lexicographic.{slice_cmp, pointwise, nat_list_cmp_total, nat_list_eq_equiv}
use Rattle.std.specs.declared.cmp.Ordering.{Ordering}
use Rattle.std.specs.declared.cmp.Ordering.TheVariants.{Less, Equal, Greater}
use Rattle.std.proofs.lemmas.List.Kept.{IsStrictlySortedBy-dedup, Contains-dedup, Contains-from_dedup}
use Rattle.std.proofs.lemmas.List.Sorted.{Contains-permutation, IsPermutation-sym}
use Rattle.std.proofs.lemmas.Map.Keys.{sorted_from_all_adjacent, Less-from_sorted}
use Rattle.std.proofs.lemmas.Map.Text.{is_eq-slice_cmp}
use Rattle.std.proofs.lemmas.Slice.Eq.{bytes_eq-Decides}
use Rattle.list_laws.proofs.Alls.{all_among}
use Rattle.list_laws.proofs.Orders.{less-from_test}
use Rattle.stage_scan.specs.Files.{AreInPathOrder, HasSamePaths}
use Rattle.rel_paths.specs.Names.{IsFreePath}

-- A test of the order

pub order_from_answer : (paths : List (List ℕ)) (r : Bool) → IsAllAdjacentAnswer (λ x y b. b ≡ is_lt (slice_cmp nat_cmp x y)) paths r → IsTrue r ↔ AreInPathOrder paths
order_from_answer paths true h = (
  λ e. sorted_from_all_adjacent nat_list_cmp_total paths [] (λ k low. less-from_test (slice_cmp nat_cmp (get_or paths k []) (get_or paths (k + 1) [])) (sym (h k [] low))),
  λ s. refl,
)
order_from_answer paths false h = (
  λ e. absurd (true≢false (sym e)),
  λ s. absurd (true≢false (sym (h.2 [] ∙ ap is_lt (Less-from_sorted (slice_cmp nat_cmp) paths h.0 (h.0 + 1) [] s (omega arith) h.1)))),
)

-- Sorting

module _ (paths sorted left : List (List ℕ)) (moved : IsPermutation paths sorted) (is : left ≡ dedup (pointwise nat_eq) sorted) where
  pub left_ordered : IsSorted (slice_cmp nat_cmp) sorted → AreInPathOrder left
  left_ordered s = subst AreInPathOrder (sym is) (IsStrictlySortedBy-dedup nat_list_cmp_total (λ x y. sym (is_eq-slice_cmp x y)) sorted s)

  pub left_same : HasSamePaths paths left
  left_same path = (
    λ c. Contains-permutation sorted paths path (IsPermutation-sym paths sorted moved) (Contains-from_dedup (pointwise nat_eq) sorted path (subst (λ l. Contains l path) is c)),
    λ c. subst (λ l. Contains l path) (sym is) (Contains-dedup nat_list_eq_equiv (λ x y e. (bytes_eq-Decides x y).0 e) sorted path (Contains-permutation paths sorted path moved c)),
  )

  pub left_free : AllByRecursion IsFreePath paths → AllByRecursion IsFreePath left
  left_free free = all_among IsFreePath paths left (λ path c. (left_same path).0 c) free
