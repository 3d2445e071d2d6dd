-- Lists of places in the order of a plan.
use Rattle.std.proofs.Common.{◌≡◌, ◌↔◌, ℕ, ◌+◌, List, [], ◌∷◌, map, IfSome, IfOk, Vec, Global, sym, ap, ◌∙◌, subst}
use Rattle.std.specs.List.{AllByRecursion, Contains}
use Rattle.std.specs.List.Sorted.{IsStrictlySortedBy}
use Rattle.std.specs.Ordering.{nat_cmp}
use Rattle.std.specs.Cmp.Lexicographic.{slice_cmp}
use Rattle.std.specs.declared.cmp.Ordering.TheVariants.{Less}
use Rattle.std.specs.declared.result.Result.{Result}
use Rattle.std.specs.declared.result.Result.TheVariants.{Ok, Err}
use Rattle.std.specs.declared.option.Option.{Option}
use Rattle.std.specs.declared.option.Option.TheVariants.{None, Some}
use Rattle.list_laws.proofs.Alls.{all_unmap}
use Rattle.list_laws.proofs.Containing.{contains_map, map_contains}
use Rattle.stage_scan.specs.Files.{HasSamePaths}
use Rattle.tree_fs.specs.declared.place.Root.TheVariants.{Game}
use Rattle.tree_fs.specs.declared.place.Place.{Place}
use Rattle.tree_fs.specs.Spot.{Spot, spot_of}
use Rattle.tree_fs.specs.Places.{game_spot}
use Rattle.tree_fs.specs.Texts.{place_text}
use Rattle.tree_fs.proofs.Spots.{same_place}
use Rattle.manifest_json.specs.Paths as paths
use Rattle.move_plan.specs.Rising.{AreRising}
use Rattle.move_plan.specs.Entries.{Entry, Listed, listed, off, key_of}
use Rattle.move_plan.specs.Rules.{ComesBefore, InOrder}
use Rattle.move_plan.specs.declared.plan.Plan.{Plan}
use Rattle.move_plan.specs.Places.{Has}
use Rattle.plan_model.specs.Folders.{GoesOff}
use Rattle.tree_fs.specs.Disk.{Disk}
use Rattle.plan_lists.specs.Search.{AreFalling}
use Rattle.plan_lists.specs.Order.{HasSameSpots}
use Rattle.plan_lists.specs.Off.{GoesByOwn, AreParted}

-- Places of paths that rise or fall

-- a game place, by its path
game_text : (p : Place) (t : List ℕ) → spot_of p ≡ game_spot t → place_text p ≡ place_text (record { root = Game; rel = Some t })
game_text p t e = ap place_text (same_place p (record { root = Game; rel = Some t }) e)

before : (p q : Place) (t u : List ℕ) → spot_of p ≡ game_spot t → spot_of q ≡ game_spot u → slice_cmp nat_cmp t u ≡ Less → ComesBefore p q
before p q t u e f less = (λ i. slice_cmp nat_cmp (game_text p t e i) (game_text q u f i)) ∙ less

module _ (lt : List ℕ → List ℕ → Type 0) (above : Place → Place → Type 0) (step : (p q : Place) (t u : List ℕ) → spot_of p ≡ game_spot t → spot_of q ≡ game_spot u → lt t u → above p q) where
  all_placed : (p : Place) (t : List ℕ) → spot_of p ≡ game_spot t → (places : List Place) (texts : List (List ℕ)) → map spot_of places ≡ map game_spot texts → AllByRecursion (lt t) texts → AllByRecursion (above p) places
  all_placed p t e [] texts is h = tt
  all_placed p t e (q ∷ qs) [] is h = absurd (cc)
  all_placed p t e (q ∷ qs) (u ∷ us) is h =
      let head : spot_of q ≡ game_spot u = cc in
      let rest : map spot_of qs ≡ map game_spot us = cc in
      (step p q t u e head h.0, all_placed p t e qs us rest h.1)

pub placed_rise : (places : List Place) (texts : List (List ℕ)) → map spot_of places ≡ map game_spot texts → paths.AreRising texts → AreRising places
unfolding IsStrictlySortedBy
placed_rise [] texts is h = tt
placed_rise (p ∷ ps) [] is h = absurd (cc)
placed_rise (p ∷ ps) (t ∷ ts) is h =
    let head : spot_of p ≡ game_spot t = cc in
    let rest : map spot_of ps ≡ map game_spot ts = cc in
    (all_placed (λ u v. slice_cmp nat_cmp u v ≡ Less) ComesBefore before p t head ps ts rest h.0, placed_rise ps ts rest h.1)

-- In the order of a plan, entry by entry

module _ {A : Type 0} (to : A → Entry) (key : A → Place) (order : (x : A) (front : Option Place) → IfSome front (λ q. ComesBefore q (key x)) → InOrder (to x) front) (same : (x : A) → key_of (to x) ≡ key x) where
  in_order_from : (xs : List A) (i : ℕ) (front : Option Place) → AreRising (map key xs) → IfSome front (λ q. AllByRecursion (λ x. ComesBefore q (key x)) xs) → AllByRecursion (λ (e : Listed). InOrder e.entry e.front) (listed to i front xs)
  unfolding IsStrictlySortedBy
  in_order_from [] i front rise h = tt
  in_order_from (x ∷ xs) i front rise h = (
    order x front (first front h),
    in_order_from xs (i + 1) (Some (key_of (to x))) rise.1
        (subst (λ p. AllByRecursion (λ y. ComesBefore p (key y)) xs) (sym (same x)) (all_unmap (λ p. ComesBefore (key x) p) key xs rise.0)),
  )
    where
      first : (f : Option Place) → IfSome f (λ q. AllByRecursion (λ y. ComesBefore q (key y)) (x ∷ xs)) → IfSome f (λ q. ComesBefore q (key x))
      first None h = tt
      first (Some q) h = h.0

  pub rising_listed : (xs : List A) → AreRising (map key xs) → AllByRecursion (λ (e : Listed). InOrder e.entry e.front) (listed to 0 None xs)
  rising_listed xs rise = in_order_from xs 0 None rise tt

-- the folders to take off, from the last to the first
fall_from : (places : List Place) (texts : List (List ℕ)) (i : ℕ) (front : Option Place) → map spot_of places ≡ map game_spot texts → AreFalling texts → IfSome front (λ q. AllByRecursion (λ p. ComesBefore p q) places)
    → AllByRecursion (λ (e : Listed). InOrder e.entry e.front) (listed off i front places)
unfolding IsStrictlySortedBy
fall_from [] texts i front is fall h = tt
fall_from (p ∷ ps) [] i front is fall h = absurd (cc)
fall_from (p ∷ ps) (t ∷ ts) i front is fall h =
    let head : spot_of p ≡ game_spot t = cc in
    let rest : map spot_of ps ≡ map game_spot ts = cc in
    (first front h, fall_from ps ts (i + 1) (Some p) rest fall.1 (all_placed (λ u v. slice_cmp nat_cmp v u ≡ Less) (λ x y. ComesBefore y x) (λ x y u v e f less. before y x v u f e less) p t head ps ts rest fall.0))
  where
    first : (f : Option Place) → IfSome f (λ q. AllByRecursion (λ x. ComesBefore x q) (p ∷ ps)) → IfSome f (λ q. ComesBefore p q)
    first None h = tt
    first (Some q) h = h.0

pub falling_listed : (places : List Place) (texts : List (List ℕ)) → map spot_of places ≡ map game_spot texts → AreFalling texts → AllByRecursion (λ (e : Listed). InOrder e.entry e.front) (listed off 0 None places)
falling_listed places texts is fall = fall_from places texts 0 None is fall tt

-- The same places

pub same_spots : (paths left : List (List ℕ)) → HasSamePaths paths left → HasSameSpots (map game_spot left) (map game_spot paths)
same_spots paths left same x = (
  λ c. let m = contains_map game_spot left x c in subst (Contains (map game_spot paths)) m.2 (map_contains game_spot paths m.0 ((same m.0).0 m.1)),
  λ c. let m = contains_map game_spot paths x c in subst (Contains (map game_spot left)) m.2 (map_contains game_spot left m.0 ((same m.0).1 m.1)),
)

-- as answers of calls

pub rise_answer : {E : Type 0} (r : Result (Vec Place Global) E) (texts : List (List ℕ)) → IfOk r (λ places. map spot_of places.items ≡ map game_spot texts) → paths.AreRising texts → IfOk r (λ places. AreRising places.items)
rise_answer (Err e) texts is rise = tt
rise_answer (Ok places) texts is rise = placed_rise places.items texts is rise

pub same_answer : {E : Type 0} (r : Result (Vec Place Global) E) (texts : List (List ℕ)) (spots : List Spot) → IfOk r (λ places. map spot_of places.items ≡ map game_spot texts) → HasSameSpots (map game_spot texts) spots → IfOk r (λ places. HasSameSpots (map spot_of places.items) spots)
same_answer (Err e) texts spots is same = tt
same_answer (Ok places) texts spots is same = subst (λ l. HasSameSpots l spots) (sym is) same

-- Places of a list

pub has_is : (places : List Place) (s : Spot) → Has places s ↔ Contains (map spot_of places) s
has_is places s = (
  λ h. subst (Contains (map spot_of places)) h.here (map_contains spot_of places h.place h.listed),
  λ c. let m = contains_map spot_of places s c in record { place = m.0; listed = m.1; here = m.2 },
)

-- the own folders that go are those of the plan
pub offs_are : (a : Disk) (own files emptied : List (List ℕ)) (plan : Plan) → GoesByOwn a own files emptied plan → (kept gone : List (List ℕ)) → AreParted a own files plan own kept gone
    → map spot_of plan.folders_off ≡ map game_spot gone → (s : Spot) → Has plan.folders_off s ↔ GoesOff a own plan s
offs_are a own files emptied plan by kept gone parted offs s = (
  λ h.
      let m = contains_map game_spot gone s (subst (λ l. Contains l s) offs ((has_is plan.folders_off s).0 h)) in
      subst (GoesOff a own plan) m.2 ((parted.goes m.0).0 m.1).1,
  λ g.
      let m = contains_map game_spot own s (by.owned s g).0 in
      let c = (parted.goes m.0).1 (m.1, subst (GoesOff a own plan) (sym m.2) g) in
      (has_is plan.folders_off s).1 (subst (λ l. Contains l s) (sym offs) (subst (Contains (map game_spot gone)) m.2 (map_contains game_spot gone m.0 c))),
)

-- these paths sorted, at their places
pub same_paths_answer : {E : Type 0} (paths : List (List ℕ)) (spots : List Spot) → map game_spot paths ≡ spots → (r : Result (Vec (List ℕ) Global) E) → IfOk r (λ left. HasSamePaths paths left.items) → IfOk r (λ left. HasSameSpots (map game_spot left.items) spots)
same_paths_answer paths spots is (Err e) same = tt
same_paths_answer paths spots is (Ok left) same = subst (HasSameSpots (map game_spot left.items)) is (same_spots paths left.items same)
