-- A list in order has each key once.
use Rattle.list_laws.proofs.Containing.{contains_cases, contains_none}
use Rattle.list_laws.proofs.Alls.{all_left, all_right}
use Rattle.std.proofs.Common.{◌≡◌, ◌≢◌, ℕ, ◌+◌, List, [], ◌∷◌, refl, sym, ap, ◌∙◌, subst, inl, inr}
use Rattle.std.specs.Prelude.{IfSome}
use Rattle.std.specs.List.{AllByRecursion, Contains}
use Rattle.std.specs.Ordering.{nat_cmp, ordering_reverse}
use Rattle.std.specs.Cmp.Lexicographic.{slice_cmp, nat_list_cmp_total}
use Rattle.std.specs.declared.cmp.Ordering.{Ordering}
use Rattle.std.specs.declared.cmp.Ordering.TheVariants.{Less, Equal, Greater}
use Rattle.std.specs.declared.option.Option.{Option}
use Rattle.std.specs.declared.option.Option.TheVariants.{None, Some}
use Rattle.tree_fs.specs.declared.place.Place.{Place}
use Rattle.tree_fs.specs.Spot.{spot_of}
use Rattle.tree_fs.specs.Texts.{place_text}
use Rattle.tree_fs.proofs.Spots.{same_place}
use Rattle.move_plan.specs.declared.plan.SetRow.{SetRow}
use Rattle.move_plan.specs.declared.plan.Plan.{Plan}
use Rattle.move_plan.specs.Entries.{Entry, folder, save, set, key_of, Listed, listed}
use Rattle.move_plan.specs.Rules.{in_order, ComesBefore, InOrder, PassesRules}

not_below : (o : Ordering) → o ≡ Less → ordering_reverse o ≡ Less → ⊥
not_below Less e r = let no_way : Greater ≡ Less = r in cc
not_below Equal e r = cc
not_below Greater e r = cc

before_apart : (p q : Place) → ComesBefore p q → p ≢ q
before_apart p q h e =
    let a = place_text p in
    let b = place_text q in
    let same : a ≡ b = ap place_text e in
    let k : slice_cmp nat_cmp b a ≡ Less = subst (λ x. slice_cmp nat_cmp x a ≡ Less) same (subst (λ x. slice_cmp nat_cmp a x ≡ Less) (sym same) h) in
    not_below (slice_cmp nat_cmp b a) k (sym (nat_list_cmp_total.antisymm a b) ∙ h)

module _ {A : Type 0} (to : A → Entry) (key : A → Place) (keys : (a : A) → key_of (to a) ≡ key a) (rises : (a : A) (front : Option Place) → InOrder (to a) front → IfSome front (λ q. ComesBefore q (key a))) where
  after_front : (i : ℕ) (q : Place) (l : List A) → AllByRecursion (λ (x : Listed). InOrder x.entry x.front) (listed to i (Some q) l) → (a : A) → Contains l a → ComesBefore q (key a)
  after_front i q [] all a c = absurd (contains_none a c)
  after_front i q (x ∷ xs) all a c =
      let first : ComesBefore q (key x) = rises x (Some q) all.0 in
      elim (contains_cases x a xs c) [
        | inl same ↦ subst (λ y. ComesBefore q (key y)) (sym same) first
        | inr there ↦ nat_list_cmp_total.trans (place_text q) (place_text (key x)) (place_text (key a)) first (subst (λ p. ComesBefore p (key a)) (keys x) (after_front (i + 1) (key_of (to x)) xs all.1 a there))
      ]

  once : (i : ℕ) (front : Option Place) (l : List A) → AllByRecursion (λ (x : Listed). InOrder x.entry x.front) (listed to i front l) → (a b : A) → Contains l a → Contains l b → key a ≡ key b → a ≡ b
  once i front [] all a b ca cb same = absurd (contains_none a ca)
  once i front (x ∷ xs) all a b ca cb same = elim (contains_cases x a xs ca) [
    | inl ax ↦ elim (contains_cases x b xs cb) [
      | inl bx ↦ ax ∙ sym bx
      | inr there ↦ absurd (before_apart (key x) (key b) (later b there) (ap key (sym ax) ∙ same))
    ]
    | inr here ↦ elim (contains_cases x b xs cb) [
      | inl bx ↦ absurd (before_apart (key x) (key a) (later a here) (ap key (sym bx) ∙ sym same))
      | inr there ↦ once (i + 1) (Some (key_of (to x))) xs all.1 a b here there same
    ]
  ]
    where
      later : (y : A) → Contains xs y → ComesBefore (key x) (key y)
      later y c = subst (λ p. ComesBefore p (key y)) (keys x) (after_front (i + 1) (key_of (to x)) xs all.1 y c)

-- no two sets have one destination
pub one_set : (plan : Plan) → PassesRules plan → (a b : SetRow) → Contains plan.sets a → Contains plan.sets b → spot_of a.to ≡ spot_of b.to → a ≡ b
one_set plan passes a b ca cb same =
    let R = λ (x : Listed). InOrder x.entry x.front in
    let rest = all_right R (listed save 0 None plan.saves) _ (all_right R (listed folder 0 None plan.folders) _ (passes in_order)) in
    once set (λ r. r.to) (λ r. refl) (λ r f h. h) 0 None plan.sets (all_left R (listed set 0 None plan.sets) _ rest) a b ca cb (same_place a.to b.to same)

-- no two saves have one destination
pub one_save : (plan : Plan) → PassesRules plan → (a b : Place × Place) → Contains plan.saves a → Contains plan.saves b → spot_of a.1 ≡ spot_of b.1 → a ≡ b
one_save plan passes a b ca cb same =
    let R = λ (x : Listed). InOrder x.entry x.front in
    let rest = all_right R (listed folder 0 None plan.folders) _ (passes in_order) in
    once save (λ s. s.1) (λ s. refl) (λ s f h. h) 0 None plan.saves (all_left R (listed save 0 None plan.saves) _ rest) a b ca cb (same_place a.1 b.1 same)
