-- The lists of a settlement: what the steps tell is what the columns say, and sets in the order of
-- their places.
use Rattle.std.proofs.Common.{◌≡◌, ◌≢◌, ℕ, Bool, true, false, List, [], ◌∷◌, map, filter_map, refl, sym, ap, ◌∙◌, subst}
use Rattle.std.specs.List.{Contains}
use Rattle.std.specs.List.Sorted.{IsStrictlySortedBy}
use Rattle.std.specs.Option.{option_map}
use Rattle.std.specs.Ordering.{on, nat_cmp, ordering_then}
use Rattle.std.specs.Cmp.Lexicographic.{slice_cmp}
use Rattle.std.specs.declared.cmp.Ordering.{Ordering}
use Rattle.std.specs.declared.cmp.Ordering.TheVariants.{Less, Equal, Greater}
use Rattle.std.specs.declared.option.Option.{Option}
use Rattle.std.specs.declared.option.Option.TheVariants.{None, Some}
use Rattle.list_laws.proofs.Alls.{all_from_contains, all_item}
use Rattle.list_laws.proofs.Containing.{contains_here, contains_there, contains_map, map_contains}
use Rattle.list_laws.proofs.Orders.{text_tied}
use Rattle.tree_fs.specs.declared.place.Place.{Place}
use Rattle.tree_fs.specs.Spot.{Spot, spot_of}
use Rattle.tree_fs.specs.Texts.{place_text}
use Rattle.tree_fs.specs.Disk.{Disk}
use Rattle.tree_fs.proofs.Spots.{same_place}
use Rattle.tree_fs.proofs.Texts.{place_text-same}
use Rattle.manifest_json.specs.declared.manifest.Row.{Row}
use Rattle.move_plan.specs.Rising.{AreRising}
use Rattle.desk_model.specs.Settled.{Choice, Deed, left_whole, put_aside, imported, reverted, accepted, linked_again, staged_again, let_go, dropped, deed_of}
use Rattle.plan_model.specs.Rows.{has_original}
use Rattle.plan_model.specs.Moves.{Move}
use Rattle.plan_lists.proofs.Gathered.{gathered_of}
use Rattle.change_settle.specs.Deeds.{cleared_spot}
use Rattle.change_settle.specs.Walk.{row_set, settle_sets, settle_clears}
use Rattle.change_settle.specs.Tasks.{told, steps_of, original_for, set_back, set_told, step_set, clear_told, step_clear}
use Rattle.change_settle.specs.Lists.{SetKey, keyed, IsFunction}

-- What the steps tell

module _ (a : Disk) (n : ℕ) where
  set_is : (r : Row) (d : Deed) → set_told n r d (original_for a r d) ≡ row_set a n r d
  set_is r left_whole = refl
  set_is r put_aside = refl
  set_is r imported = refl
  set_is r reverted = refl
  set_is r accepted = refl
  set_is r linked_again = refl
  set_is r staged_again = refl
  set_is r let_go = refl
  set_is r dropped = by (has_original a r) refl
    where
      by : (b : Bool) → has_original a r ≡ b → set_back r (has_original a r) ≡ row_set a n r dropped
      by true e = ap (set_back r) e ∙ sym (rowed true e)
        where
          rowed : (b : Bool) → has_original a r ≡ b → row_set a n r dropped ≡ set_back r b
          rowed true e = rw e refl
          rowed false e = rw e refl
      by false e = ap (set_back r) e ∙ sym (rowed false e)
        where
          rowed : (b : Bool) → has_original a r ≡ b → row_set a n r dropped ≡ set_back r b
          rowed true e = rw e refl
          rowed false e = rw e refl

  clear_is : (r : Row) (d : Deed) → clear_told n r d (original_for a r d) ≡ cleared_spot a n r d
  clear_is r left_whole = refl
  clear_is r put_aside = refl
  clear_is r imported = refl
  clear_is r reverted = refl
  clear_is r accepted = refl
  clear_is r linked_again = refl
  clear_is r staged_again = refl
  clear_is r let_go = refl
  clear_is r dropped = refl

  pub sets_told : (choice : Choice) (rows : List Row) → filter_map (step_set n) (steps_of choice a rows) ≡ settle_sets choice a rows n
  sets_told choice rows = gathered_of (step_set n) (λ r. told a (r, deed_of choice a r)) (λ r. row_set a n r (deed_of choice a r)) (λ r. set_is r (deed_of choice a r)) rows

  pub clears_told : (choice : Choice) (rows : List Row) → filter_map (step_clear n) (steps_of choice a rows) ≡ settle_clears choice a rows n
  clears_told choice rows = gathered_of (step_clear n) (λ r. told a (r, deed_of choice a r)) (λ r. cleared_spot a n r (deed_of choice a r)) (λ r. clear_is r (deed_of choice a r)) rows

-- Sets in the order of their places

abbrev pub place_cmp : Place → Place → Ordering
place_cmp = on place_text (slice_cmp nat_cmp)

same_option : (o u : Option Place) → option_map spot_of o ≡ option_map spot_of u → o ≡ u
same_option None None e = refl
same_option None (Some q) e = absurd (cc)
same_option (Some p) None e = absurd (cc)
same_option (Some p) (Some q) e = ap Some (same_place p q (let t : spot_of p ≡ spot_of q = cc in t))

-- two sets of one place are one
one_set : (sets : List SetKey) → IsFunction (map keyed sets) → (k l : SetKey) → Contains sets k → Contains sets l → k.0 ≡ l.0 → k ≡ l
one_set sets function k l c d e =
    let here : ◌≡◌ {A = Spot × Move} (keyed k) (spot_of l.0, (keyed k).1) = λ i. (spot_of (e i), (keyed k).1) in
    let move : (keyed k).1 ≡ (keyed l).1 = function (spot_of l.0) (keyed k).1 (keyed l).1 (subst (Contains (map keyed sets)) here (map_contains keyed sets k c)) (map_contains keyed sets l d) in
    let from = same_option k.1.0 l.1.0 (ap (λ (m : Move). m.from) move) in
    let back = same_option k.1.1 l.1.1 (ap (λ (m : Move). m.back) move) in
    λ i. (e i, (from i, back i))

module _ (rest : SetKey → SetKey → Ordering) where
  abbrev pub key_cmp : SetKey → SetKey → Ordering
  key_cmp x y = ordering_then (place_cmp x.0 y.0) (rest x y)

  first_less : (x y : SetKey) → (x.0 ≡ y.0 → ⊥) → key_cmp x y ≡ Less → place_cmp x.0 y.0 ≡ Less
  first_less x y apart less = by (place_cmp x.0 y.0) refl
    where
      by : (o : Ordering) → place_cmp x.0 y.0 ≡ o → o ≡ Less
      by Less e = refl
      by Equal e = absurd (apart (place_text-same x.0 y.0 (text_tied (place_text x.0) (place_text y.0) e)))
      by Greater e = let t : Greater ≡ Less = sym (ap (λ o. ordering_then o (rest x y)) e) ∙ less in absurd (cc)

  pub firsts_rise : ((x : SetKey) → key_cmp x x ≢ Less) → (sets : List SetKey) → ((k l : SetKey) → Contains sets k → Contains sets l → k.0 ≡ l.0 → k ≡ l) → IsStrictlySortedBy key_cmp sets → AreRising (map (λ (k : SetKey). k.0) sets)
  unfolding IsStrictlySortedBy
  firsts_rise never [] one sorted = tt
  firsts_rise never (x ∷ xs) one sorted = (
    all_from_contains (λ p. place_cmp x.0 p ≡ Less) (map (λ (k : SetKey). k.0) xs) above,
    firsts_rise never xs (λ k l c d e. one k l (contains_there x k xs c) (contains_there x l xs d) e) sorted.1,
  )
    where
      apart : (y : SetKey) → Contains xs y → x.0 ≡ y.0 → ⊥
      apart y c e =
          let same = one x y (contains_here x xs) (contains_there x y xs c) e in
          never x (subst (λ z. key_cmp x z ≡ Less) (sym same) (all_item (λ z. key_cmp x z ≡ Less) xs y sorted.0 c))

      above : (p : Place) → Contains (map (λ (k : SetKey). k.0) xs) p → place_cmp x.0 p ≡ Less
      above p c =
          let m = contains_map (λ (k : SetKey). k.0) xs p c in
          subst (λ q. place_cmp x.0 q ≡ Less) m.2 (first_less x m.0 (apart m.0 m.1) (all_item (λ z. key_cmp x z ≡ Less) xs m.0 sorted.0 m.1))

-- a function stays one where some of its sets are left
pub function_left : (sets left : List SetKey) → ((k : SetKey) → Contains left k → Contains sets k) → IsFunction (map keyed sets) → (k l : SetKey) → Contains left k → Contains left l → k.0 ≡ l.0 → k ≡ l
function_left sets left among function k l c d e = one_set sets function k l (among k c) (among l d) e
