-- The saves in the order of the places that they lead to.
use Rattle.std.proofs.Common.{◌≡◌, ◌≢◌, ◌+◌, Bool, false, List, [], ◌∷◌, length, get_or, map, filter_map, nat_eq, refl, sym, ap, ◌∙◌, subst, inl, inr, arith}
use Rattle.std.specs.List.{Contains, IsDistinct}
use Rattle.std.specs.List.Sorted.{IsStrictlySortedBy, IsSorted, IsPermutation}
use Rattle.std.specs.Ordering.{on, nat_cmp, is_lt, ordering_then}
use Rattle.std.specs.Cmp.Lexicographic.{slice_cmp, pointwise, on_texts}
use Rattle.std.specs.declared.cmp.Ordering.{Ordering}
use Rattle.std.specs.declared.cmp.Ordering.TheVariants.{Less, Equal, Greater}
use Rattle.std.specs.declared.option.Option.{Option}
use Rattle.std.specs.declared.option.Option.TheVariants.{None, Some}
use Rattle.std.proofs.lemmas.List.{get_or-map, length-map}
use Rattle.std.proofs.lemmas.List.Sorted.{IsPermutation-map, IsPermutation-sym, Contains-permutation}
use Rattle.std.proofs.lemmas.Map.Keys.{IsDistinct-IsPermutation}
use Rattle.std.proofs.lemmas.Map.Text.{is_eq-slice_cmp}
use Rattle.list_laws.proofs.Alls.{all_from_contains, all_item}
use Rattle.list_laws.proofs.Containing.{contains_map, map_contains, contains_filter_map}
use Rattle.list_laws.proofs.Distinct.{strictly_sorted}
use Rattle.list_laws.proofs.Orders.{text_not_itself}
use Rattle.list_laws.proofs.Texts.{bytes_eq_tells, bytes_eq-turned}
use Rattle.tree_fs.specs.declared.place.Place.{Place}
use Rattle.tree_fs.specs.Spot.{Spot, spot_of}
use Rattle.tree_fs.specs.Places.{game_spot}
use Rattle.tree_fs.specs.Texts.{place_text}
use Rattle.tree_fs.proofs.Texts.{place_text-same}
use Rattle.backup_keep.specs.Places.{backup_spot}
use Rattle.backup_keep.proofs.Kept.{backup_spot-same}
use Rattle.desk_model.specs.Deployed.{Win}
use Rattle.plan_model.specs.Lists.{ends_of}
use Rattle.move_plan.specs.Rising.{AreRising}
use Rattle.deploy_plan.specs.Order.{turned, turned_ends, PathsRise, HasSameEnds}
use Rattle.deploy_plan.specs.Told.{Told, leaving, staying, turning, coming, covering, told_path, told_save}

abbrev pub place_cmp : Place → Place → Ordering
place_cmp = on place_text (slice_cmp nat_cmp)

abbrev pub pair_cmp : Place × Place → Place × Place → Ordering
pair_cmp x y = ordering_then (place_cmp x.0 y.0) (place_cmp x.1 y.1)

abbrev place_eq : Place → Place → Bool
place_eq = on place_text (pointwise nat_eq)

first_low : (o p : Ordering) → is_lt (ordering_then o p) ≡ false → is_lt o ≡ false
first_low Less p e = absurd (cc)
first_low Equal p e = refl
first_low Greater p e = refl

firsts_sorted : (xs : List (Place × Place)) → IsSorted pair_cmp xs → IsSorted place_cmp (map (λ (s : Place × Place). s.0) xs)
firsts_sorted xs sorted k d low high =
    let n : length (map (λ (s : Place × Place). s.0) xs) ≡ length xs = simp length-map in
    let later = get_or-map (λ (s : Place × Place). s.0) xs (k + 1) (d, d) d (omega (arith, n)) in
    let this = get_or-map (λ (s : Place × Place). s.0) xs k (d, d) d (omega (arith, n)) in
    let y = get_or xs (k + 1) (d, d) in
    let x = get_or xs k (d, d) in
    (λ i. is_lt (place_cmp (later i) (this i))) ∙ first_low (place_cmp y.0 x.0) (place_cmp y.1 x.1) (sorted k (d, d) low (omega (arith, n)))

-- Saves of cases whose paths rise lead to different places

later_path : (t : Told) (ts : List Told) (w : Win) → PathsRise (map told_path (t ∷ ts)) → Contains ts (covering w) → slice_cmp nat_cmp (told_path t) w.path ≡ Less
unfolding IsStrictlySortedBy
later_path t ts w rise c = all_item (λ q. slice_cmp nat_cmp (told_path t) q ≡ Less) (map told_path ts) w.path rise.0 (map_contains told_path ts (covering w) c)

second : Spot → Option (Spot × Spot) → Spot
second x None = x
second x (Some z) = z.1

saved_by : (t : Told) (y : Spot × Spot) → told_save t ≡ Some y → (w : Win) × (t ≡ covering w) × (backup_spot w.path ≡ y.1)
unfolding second
saved_by (leaving r kept) y e = absurd (cc)
saved_by (staying r) y e = absurd (cc)
saved_by (turning r w) y e = absurd (cc)
saved_by (coming w) y e = absurd (cc)
saved_by (covering w) y e = (w, refl, (let is : Some (game_spot w.path, backup_spot w.path) ≡ Some y = e in ap (second (backup_spot w.path)) is))

-- a place that another save leads to differs
differs : (t : Told) (w : Win) (ts : List Told) (p q : Place × Place) → t ≡ covering w → PathsRise (map told_path (t ∷ ts)) → spot_of p.0 ≡ backup_spot w.path → Contains (filter_map told_save ts) (turned_ends q) → place_eq p.0 q.0 ≡ false
differs t w ts p q is rise here c =
    let h = contains_filter_map told_save ts (turned_ends q) c in
    let s = saved_by h.0 (turned_ends q) h.2 in
    let less : slice_cmp nat_cmp (told_path t) s.0.path ≡ Less = later_path t ts s.0 rise (subst (Contains ts) s.1 h.1) in
    let apart : place_text p.0 ≢ place_text q.0 = λ e.
    let same : w.path ≡ s.0.path = backup_spot-same w.path s.0.path (sym here ∙ ap spot_of (place_text-same p.0 q.0 e) ∙ sym s.2) in
    text_not_itself w.path ((λ i. slice_cmp nat_cmp (ap told_path (sym is) i) (same i)) ∙ less) in
    elim (bytes_eq_tells (place_text p.0) (place_text q.0)) [ inl yes_same ↦ absurd (apart yes_same.1) | inr no_same ↦ no_same.0 ]

distinct_firsts : (ts : List Told) → PathsRise (map told_path ts) → (pairs : List (Place × Place)) → map turned_ends pairs ≡ filter_map told_save ts → IsDistinct place_eq (map (λ (s : Place × Place). s.0) pairs)
unfolding IsStrictlySortedBy IsDistinct
distinct_firsts [] rise [] e = tt
distinct_firsts [] rise (p ∷ ps) e = absurd (cc)
distinct_firsts (leaving r kept ∷ ts) rise pairs e = distinct_firsts ts rise.1 pairs e
distinct_firsts (staying r ∷ ts) rise pairs e = distinct_firsts ts rise.1 pairs e
distinct_firsts (turning r w ∷ ts) rise pairs e = distinct_firsts ts rise.1 pairs e
distinct_firsts (coming w ∷ ts) rise pairs e = distinct_firsts ts rise.1 pairs e
distinct_firsts (covering w ∷ ts) rise [] e = absurd (cc)
distinct_firsts (covering w ∷ ts) rise (p ∷ ps) e =
    let head : turned_ends p ≡ (game_spot w.path, backup_spot w.path) = cc in
    let rest : map turned_ends ps ≡ filter_map told_save ts = cc in (
      all_from_contains (λ q. place_eq p.0 q ≡ false) (map (λ (s : Place × Place). s.0) ps)
          (λ q c.
          let m = contains_map (λ (s : Place × Place). s.0) ps q c in
          subst (λ z. place_eq p.0 z ≡ false) m.2
          (differs (covering w) w ts p m.0 refl rise (ap (λ z. z.1) head) (subst (λ l. Contains l (turned_ends m.0)) rest (map_contains turned_ends ps m.0 m.1)))),
      distinct_firsts ts rise.1 ps rest,
    )

map_turned : (xs : List (Place × Place)) → map (λ (s : Place × Place). s.1) (map turned xs) ≡ map (λ (s : Place × Place). s.0) xs
map_turned [] = refl
map_turned (x ∷ xs) = ap (λ l. x.0 ∷ l) (map_turned xs)

ends_turned : (xs : List (Place × Place)) → map ends_of (map turned xs) ≡ map turned_ends xs
ends_turned [] = refl
ends_turned (x ∷ xs) = ap (λ l. turned_ends x ∷ l) (ends_turned xs)

module _ (ts : List Told) (pairs sorted : List (Place × Place)) (is : map turned_ends pairs ≡ filter_map told_save ts) (moved : IsPermutation pairs sorted) where
  pub saves_rise : PathsRise (map told_path ts) → IsSorted pair_cmp sorted → AreRising (map (λ (s : Place × Place). s.1) (map turned sorted))
  saves_rise rise order =
      let firsts = λ (s : Place × Place). s.0 in
      let apart = IsDistinct-IsPermutation place_eq (λ x y. bytes_eq-turned (place_text x) (place_text y)) (map firsts pairs) (map firsts sorted) (IsPermutation-map firsts pairs sorted moved) (distinct_firsts ts rise pairs is) in
      subst AreRising (sym (map_turned sorted))
      (strictly_sorted (on_texts place_text) place_eq (λ x y. bytes_eq-turned (place_text x) (place_text y)) (λ x y. sym (is_eq-slice_cmp (place_text x) (place_text y))) (map firsts sorted) apart (firsts_sorted sorted order))

  pub saves_same : HasSameEnds (map ends_of (map turned sorted)) (filter_map told_save ts)
  saves_same y = (
    λ c. subst (λ l. Contains l y) is (Contains-permutation (map turned_ends sorted) (map turned_ends pairs) y (IsPermutation-sym (map turned_ends pairs) (map turned_ends sorted) (IsPermutation-map turned_ends pairs sorted moved)) (subst (λ l. Contains l y) (ends_turned sorted) c)),
    λ c. subst (λ l. Contains l y) (sym (ends_turned sorted)) (Contains-permutation (map turned_ends pairs) (map turned_ends sorted) y (IsPermutation-map turned_ends pairs sorted moved) (subst (λ l. Contains l y) (sym is) c)),
  )

pub map_map : {X Y Z : Type 0} (f : Y → Z) (g : X → Y) (xs : List X) → map f (map g xs) ≡ map (λ x. f (g x)) xs
map_map f g [] = refl
map_map f g (x ∷ xs) = ap (λ l. f (g x) ∷ l) (map_map f g xs)
