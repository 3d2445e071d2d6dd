-- The edges from a node stand together.
use Rattle.std.proofs.Common.{◌≡◌, ◌<◌, ◌≤◌, ◌⊎◌, inl, inr, ℕ, ◌+◌, ◌-◌, List, true, false, nat_eq, eq-eqb, ltb, leb, length, get_or, take, drop, ap, ◌∙◌, arith}
use Rattle.std.specs.declared.cmp.Ordering.TheVariants.{Less, Greater}
use Rattle.std.specs.Ordering.{nat_cmp, ordering_then}
use Rattle.std.specs.Cmp.{nat_cmp_is}
use Rattle.std.specs.List.Sorted.{IsNonDecreasingBy, IsPartitionPoint}
use Rattle.std.proofs.lemmas.Bool.{cases_lt, ltb-true, ltb-false, leb-true, leb-false}
use Rattle.std.proofs.lemmas.Bool.Decides.{nat_tests}
use Rattle.std.proofs.lemmas.Map.Keys.{Less-from_sorted}
use Rattle.mod_rules.specs.Edges.{AreAscending, edge_cmp}
use Rattle.list_laws.proofs.Positions.{filter_mid}
use Rattle.load_order.specs.Counts.{edges_from}

first_no_later : (e f : ℕ × ℕ) → edge_cmp e f ≡ Less → e.0 ≤ f.0
first_no_later e f h = by (cases_lt f.0 e.0)
  where
    by : (f.0 < e.0) ⊎ (e.0 ≤ f.0) → e.0 ≤ f.0
    by (inl l) =
        let is : Greater ≡ nat_cmp e.0 f.0 = nat_cmp_is e.0 f.0 Greater l in
        let bad = ap (λ o. ordering_then o (nat_cmp e.1 f.1)) is ∙ h in
        cc
    by (inr l) = l

pub firsts_ascend : (es : List (ℕ × ℕ)) → AreAscending es → IsNonDecreasingBy (λ (e : ℕ × ℕ). e.0) es
firsts_ascend es h i j d le l = by (cases_lt i j)
  where
    by : (i < j) ⊎ (j ≤ i) → (get_or es i d).0 ≤ (get_or es j d).0
    by (inl lt) = first_no_later (get_or es i d) (get_or es j d) (Less-from_sorted edge_cmp es i j d h lt l)
    by (inr ge) = let same : i ≡ j = omega (arith, le, ge) in let e = ap (λ k. (get_or es k d).0) same in omega (arith, e)

-- the first edge that isn't below the node comes no later than the first that is above it
pub no_turn : (es : List (ℕ × ℕ)) (node s t : ℕ) → s ≤ length es → IsPartitionPoint (λ (e : ℕ × ℕ). ltb e.0 node ≡ true) (λ (e : ℕ × ℕ). ltb e.0 node ≡ false) es s
    → IsPartitionPoint (λ (e : ℕ × ℕ). leb e.0 node ≡ true) (λ (e : ℕ × ℕ). leb e.0 node ≡ false) es t → s ≤ t
no_turn es node s t l from to = by (cases_lt t s)
  where
    by : (t < s) ⊎ (s ≤ t) → s ≤ t
    by (inl lt) =
        let below = ltb-true (get_or es t (0, 0)).0 node (from.0 t (0, 0) (omega arith) lt) in
        let above = leb-false (get_or es t (0, 0)).0 node (to.1 t (0, 0) (omega arith) (omega arith)) in
        absurd (omega (arith, below, above))
    by (inr le) = le

pub from_node : (es : List (ℕ × ℕ)) (node s t : ℕ) → s ≤ length es → t ≤ length es → IsPartitionPoint (λ (e : ℕ × ℕ). ltb e.0 node ≡ true) (λ (e : ℕ × ℕ). ltb e.0 node ≡ false) es s
    → IsPartitionPoint (λ (e : ℕ × ℕ). leb e.0 node ≡ true) (λ (e : ℕ × ℕ). leb e.0 node ≡ false) es t → edges_from node es ≡ take (t - s) (drop s es)
from_node es node s t ls lt from to =
    let le : s ≤ t = no_turn es node s t ls from to in
    let sum : s + (t - s) ≡ t = omega (arith, le) in
    filter_mid (λ (e : ℕ × ℕ). nat_eq e.0 node) es s (t - s)
    (λ k d lo hi. eqb_no (get_or es k d).0 node (λ e. (let h = ltb-true (get_or es k d).0 node (from.0 k d lo hi) in omega (arith, h, e))))
    (λ k d lo hi.
    let a = ltb-false (get_or es k d).0 node (from.1 k d lo (omega (arith, hi, sum, lt))) in
    let b = leb-true (get_or es k d).0 node (to.0 k d (omega arith) (omega (arith, hi, sum))) in
    eq-eqb (get_or es k d).0 node (omega (arith, a, b)))
    (λ k d lo hi. eqb_no (get_or es k d).0 node (λ e. (let h = leb-false (get_or es k d).0 node (to.1 k d (omega (arith, lo, sum)) hi) in omega (arith, h, e))))
    (omega (arith, sum, lt))
  where
    eqb_no : (a b : ℕ) → (a ≡ b → ⊥) → nat_eq a b ≡ false
    eqb_no a b ne = grind (arith, nat_tests)
