-- Sets in the order of their places, each once.
use Rattle.std.proofs.Common.{◌≡◌, ◌≢◌, ◌↔◌, Bool, true, ◌&&◌, IfOk, Vec, Global, List, map, nat_eq, refl, sym, ap, ◌∙◌, subst}
use Rattle.std.specs.List.{Contains, dedup}
use Rattle.std.specs.List.Sorted.{IsSorted, IsPermutation, IsStrictlySortedBy}
use Rattle.std.specs.Option.{option_eq, option_cmp}
use Rattle.std.specs.declared.cmp.Ordering.{Ordering}
use Rattle.std.specs.Ordering.{on, is_eq, ordering_then}
use Rattle.std.specs.Cmp.{IsTotalOrder, IsEquivalence, on_total, then_total, on_equiv, and_equiv, both_tied}
use Rattle.std.specs.Cmp.Lexicographic.{pointwise, on_texts, on_texts_equal, texts_ties, options_total, options_equiv}
use Rattle.std.specs.declared.cmp.Ordering.TheVariants.{Less, Equal}
use Rattle.std.specs.declared.option.Option.{Option}
use Rattle.std.specs.declared.option.Option.TheVariants.{None, Some}
use Rattle.std.specs.declared.result.Result.{Result}
use Rattle.std.specs.declared.result.Result.TheVariants.{Ok, Err}
use Rattle.std.proofs.lemmas.Cmp.{tied_itself}
use Rattle.std.proofs.lemmas.Bool.{and_parts}
use Rattle.std.proofs.lemmas.List.Kept.{IsStrictlySortedBy-dedup, Contains-dedup, Contains-from_dedup}
use Rattle.std.proofs.lemmas.List.Sorted.{Contains-permutation, IsPermutation-sym}
use Rattle.std.proofs.lemmas.Slice.Eq.{bytes_eq-Decides}
use Rattle.tree_fs.specs.declared.place.Place.{Place}
use Rattle.tree_fs.specs.Spot.{Spot}
use Rattle.tree_fs.specs.Texts.{place_text}
use Rattle.tree_fs.proofs.Texts.{place_text-same}
use Rattle.list_laws.proofs.Containing.{contains_map, map_contains}
use Rattle.move_plan.specs.declared.plan.SetRow.{SetRow}
use Rattle.move_plan.specs.Rising.{AreRising}
use Rattle.plan_model.specs.Moves.{Move}
use Rattle.plan_model.specs.Lists.{spotted}
use Rattle.change_settle.specs.Lists.{SetKey, keyed, IsFunction}
use Rattle.change_settle.proofs.Listed.{place_cmp, key_cmp, firsts_rise, function_left}

abbrev place_eq : Place → Place → Bool
place_eq = on place_text (pointwise nat_eq)

abbrev rest_eq : Option Place × Option Place → Option Place × Option Place → Bool
rest_eq x y = option_eq place_eq x.0 y.0 && option_eq place_eq x.1 y.1

abbrev pub key_eq : SetKey → SetKey → Bool
key_eq x y = place_eq x.0 y.0 && rest_eq x.1 y.1

abbrev rest_cmp : Option Place × Option Place → Option Place × Option Place → Ordering
rest_cmp x y = ordering_then (option_cmp place_cmp x.0 y.0) (option_cmp place_cmp x.1 y.1)

abbrev pub rest_of : SetKey → SetKey → Ordering
rest_of x y = rest_cmp x.1 y.1

places_total : IsTotalOrder place_cmp
places_total = on_texts place_text

rest_total : IsTotalOrder rest_cmp
rest_total = then_total (on_total (λ (t : Option Place × Option Place). t.0) (options_total places_total)) (on_total (λ (t : Option Place × Option Place). t.1) (options_total places_total))

total : IsTotalOrder (key_cmp rest_of)
total = then_total (on_total (λ (t : SetKey). t.0) places_total) (on_total (λ (t : SetKey). t.1) rest_total)

places_equal : IsEquivalence place_eq
places_equal = on_texts_equal place_text

rest_equal : IsEquivalence rest_eq
rest_equal = and_equiv (on_equiv (λ (t : Option Place × Option Place). t.0) (options_equiv places_equal)) (on_equiv (λ (t : Option Place × Option Place). t.1) (options_equiv places_equal))

equal : IsEquivalence key_eq
equal = and_equiv (on_equiv (λ (t : SetKey). t.0) places_equal) (on_equiv (λ (t : SetKey). t.1) rest_equal)

place_tied : (p q : Place) → place_eq p q ≡ is_eq (place_cmp p q)
place_tied p q = texts_ties (place_text p) (place_text q)

option_tied : (o u : Option Place) → option_eq place_eq o u ≡ is_eq (option_cmp place_cmp o u)
option_tied None None = refl
option_tied None (Some q) = refl
option_tied (Some p) None = refl
option_tied (Some p) (Some q) = place_tied p q

tied : (x y : SetKey) → key_eq x y ≡ is_eq (key_cmp rest_of x y)
tied x y = both_tied _ _ (place_cmp x.0 y.0) (rest_cmp x.1 y.1) (place_tied x.0 y.0) (both_tied _ _ (option_cmp place_cmp x.1.0 y.1.0) (option_cmp place_cmp x.1.1 y.1.1) (option_tied x.1.0 y.1.0) (option_tied x.1.1 y.1.1))

place_same : (p q : Place) → place_eq p q ≡ true → p ≡ q
place_same p q e = place_text-same p q ((bytes_eq-Decides (place_text p) (place_text q)).0 e)

option_same : (o u : Option Place) → option_eq place_eq o u ≡ true → o ≡ u
option_same None None e = refl
option_same None (Some q) e = absurd (cc)
option_same (Some p) None e = absurd (cc)
option_same (Some p) (Some q) e = ap Some (place_same p q e)

key_same : (x y : SetKey) → key_eq x y ≡ true → x ≡ y
key_same x y e =
    let p = and_parts (place_eq x.0 y.0) (rest_eq x.1 y.1) e in
    let r = and_parts (option_eq place_eq x.1.0 y.1.0) (option_eq place_eq x.1.1 y.1.1) p.1 in
    let to = place_same x.0 y.0 p.0 in
    let from = option_same x.1.0 y.1.0 r.0 in
    let back = option_same x.1.1 y.1.1 r.1 in
    λ i. (to i, (from i, back i))

never : (x : SetKey) → key_cmp rest_of x x ≢ Less
never x e = let no : Equal ≡ Less = sym (tied_itself total x) ∙ e in cc

module _ (sets sorted left : List SetKey) (moved : IsPermutation sets sorted) (is : left ≡ dedup key_eq sorted) where
  pub sets_same : (k : SetKey) → (Contains left k ↔ Contains sets k)
  sets_same k = (
    λ c. Contains-permutation sorted sets k (IsPermutation-sym sets sorted moved) (Contains-from_dedup key_eq sorted k (subst (λ l. Contains l k) is c)),
    λ c. subst (λ l. Contains l k) (sym is) (Contains-dedup equal key_same sorted k (Contains-permutation sets sorted k moved c)),
  )

  pub sets_rise : IsSorted (key_cmp rest_of) sorted → IsFunction (map keyed sets) → AreRising (map (λ (k : SetKey). k.0) left)
  sets_rise order function =
      firsts_rise rest_of never left (function_left sets left (λ k c. (sets_same k).0 c) function)
      (subst (IsStrictlySortedBy (key_cmp rest_of)) (sym is) (IsStrictlySortedBy-dedup total tied sorted order))

-- the same of rows of a plan

pub rows_rise : {E : Type 0} (sets : List SetKey) → AreRising (map (λ (k : SetKey). k.0) sets) → (r : Result (Vec SetRow Global) E) → IfOk r (λ rows. map (λ (row : SetRow). row.to) rows.items ≡ map (λ (k : SetKey). k.0) sets)
    → IfOk r (λ rows. AreRising (map (λ (row : SetRow). row.to) rows.items))
rows_rise sets rise (Err e) h = tt
rows_rise sets rise (Ok rows) h = subst AreRising (sym h) rise

pub rows_same : {E : Type 0} (sets left : List SetKey) (moves : List (Spot × Move)) → map keyed sets ≡ moves → ((k : SetKey) → (Contains left k ↔ Contains sets k)) → (r : Result (Vec SetRow Global) E) → IfOk r (λ rows. map spotted rows.items ≡ map keyed left)
    → IfOk r (λ rows. (v : Spot × Move) → (Contains (map spotted rows.items) v ↔ Contains moves v))
rows_same sets left moves is same (Err e) h = tt
rows_same sets left moves is same (Ok rows) h = λ v. (
  λ c. let k = contains_map keyed left v (subst (λ l. Contains l v) h c) in subst (λ l. Contains l v) is (subst (Contains (map keyed sets)) k.2 (map_contains keyed sets k.0 ((same k.0).0 k.1))),
  λ c. let k = contains_map keyed sets v (subst (λ l. Contains l v) (sym is) c) in subst (λ l. Contains l v) (sym h) (subst (Contains (map keyed left)) k.2 (map_contains keyed left k.0 ((same k.0).1 k.1))),
)
