-- Entries that are made from rising paths, one at most from each, are in order.
use Rattle.std.proofs.Common.{◌≡◌, ℕ, ◌+◌, ◌<◌, List, [], ◌∷◌, ◌++◌, map, filter_map, codes, IfSome, refl, sym, ap, ◌∙◌, arith}
use Rattle.std.specs.List.{AllByRecursion, cons_option}
use Rattle.std.specs.List.Sorted.{IsStrictlySortedBy}
use Rattle.std.specs.Ordering.{nat_cmp}
use Rattle.std.specs.Fmt.{decimal}
use Rattle.std.specs.Cmp.Lexicographic.{slice_cmp}
use Rattle.std.specs.declared.cmp.Ordering.TheVariants.{Less, Equal}
use Rattle.std.specs.declared.option.Option.{Option}
use Rattle.std.specs.declared.option.Option.TheVariants.{None, Some}
use Rattle.std.proofs.lemmas.Bool.Decides.{nat_tests}
use Rattle.list_laws.proofs.Alls.{all_unmap}
use Rattle.tree_fs.specs.declared.place.Root.TheVariants.{Game, Keep}
use Rattle.tree_fs.specs.declared.place.Place.{Place}
use Rattle.tree_fs.specs.Spot.{Spot, spot_of}
use Rattle.tree_fs.specs.Places.{game_spot}
use Rattle.tree_fs.specs.Texts.{place_text, root_word}
use Rattle.tree_fs.proofs.Spots.{same_place}
use Rattle.backup_keep.specs.Places.{aside_spot}
use Rattle.backup_keep.proofs.Asided.{aside_text, aside_names}
use Rattle.move_plan.specs.Entries.{Entry, key_of, Listed, listed}
use Rattle.move_plan.specs.Rules.{ComesBefore, InOrder}
use Rattle.plan_model.specs.Moves.{Move}
use Rattle.plan_model.specs.Lists.{at_place}
use Rattle.plan_model.proofs.Firsts.{Rises}

-- items of later paths
abbrev pub Above : {X : Type 0} → (X → List ℕ) → List ℕ → List X → Type 0
Above path q xs = AllByRecursion (λ x. slice_cmp nat_cmp q (path x) ≡ Less) xs

abbrev pub RiseBy : {X : Type 0} → (X → List ℕ) → List X → Type 0
RiseBy path [] = Unit {0}
RiseBy path (x ∷ xs) = Above path (path x) xs × RiseBy path xs

pub rise_by : {X : Type 0} (path : X → List ℕ) (xs : List X) → Rises (map path xs) → RiseBy path xs
unfolding IsStrictlySortedBy
rise_by path [] h = tt
rise_by path (x ∷ xs) h = (all_unmap (λ y. slice_cmp nat_cmp (path x) y ≡ Less) path xs h.0, rise_by path xs h.1)

-- a place with its move is that place and that move
pub at_place-some : (x y : Spot) (o : Option Move) (v : Move) → at_place x o ≡ Some (y, v) → (x ≡ y) × (o ≡ Some v)
at_place-some x y None v e = absurd (cc)
at_place-some x y (Some u) v e = let t : ◌≡◌ {A = Spot × Move} (x, u) (y, v) = cc in (ap (λ z. z.0) t, ap (λ z. Some z.1) t)

-- each entry stands at the place of its item's path, and the places are in the order of the paths
module _ {X A S : Type 0} (path : X → List ℕ) (to : A → Entry) (seen : A → S) (f : X → Option S) (at : List ℕ → Spot)
    (placed : (x : X) (s : S) (v : A) → f x ≡ Some s → seen v ≡ s → spot_of (key_of (to v)) ≡ at (path x))
    (ordered : (p q : Place) (t u : List ℕ) → spot_of p ≡ at t → spot_of q ≡ at u → slice_cmp nat_cmp t u ≡ Less → ComesBefore p q)
    (rises : (v : A) (front : Option Place) → IfSome front (λ q. ComesBefore q (key_of (to v))) → InOrder (to v) front) where
  abbrev Earlier : Option Place → List X → Type 0
  Earlier front xs = IfSome front (λ p. (u : List ℕ) × (spot_of p ≡ at u) × Above path u xs)

  made_from : (xs : List X) (vs : List A) (i : ℕ) (front : Option Place) → RiseBy path xs → map seen vs ≡ filter_map f xs → Earlier front xs
      → AllByRecursion (λ (e : Listed). InOrder e.entry e.front) (listed to i front vs)
  made_from [] [] i front rise e h = tt
  made_from [] (v ∷ vs) i front rise e h = absurd (cc)
  made_from (x ∷ xs) vs i front rise e h = by_made (λ ws k g u w. made_from xs ws k g rise.1 u w) (f x) refl vs e
    where
      later : (g : Option Place) → Earlier g (x ∷ xs) → Earlier g xs
      later None k = tt
      later (Some p) k = (k.0, k.1, k.2.1)

      first : (v : A) (s : S) → f x ≡ Some s → seen v ≡ s → InOrder (to v) front
      first v s is same = rises v front (by_front front h)
        where
          by_front : (g : Option Place) → Earlier g (x ∷ xs) → IfSome g (λ q. ComesBefore q (key_of (to v)))
          by_front None k = tt
          by_front (Some p) k = ordered p (key_of (to v)) k.0 (path x) k.1 (placed x s v is same) k.2.0

      by_made : ((ws : List A) (k : ℕ) (g : Option Place) → map seen ws ≡ filter_map f xs → Earlier g xs → AllByRecursion (λ (e : Listed). InOrder e.entry e.front) (listed to k g ws))
          → (o : Option S) → f x ≡ o → (ws : List A) → map seen ws ≡ filter_map f (x ∷ xs) → AllByRecursion (λ (e : Listed). InOrder e.entry e.front) (listed to i front ws)
      by_made next None is ws e = next ws i front (e ∙ ap (λ o. cons_option o (filter_map f xs)) is) (later front h)
      by_made next (Some s) is [] e = let t : [] ≡ s ∷ filter_map f xs = e ∙ ap (λ o. cons_option o (filter_map f xs)) is in absurd (cc)
      by_made next (Some s) is (v ∷ ws) e =
          let t : seen v ∷ map seen ws ≡ s ∷ filter_map f xs = e ∙ ap (λ o. cons_option o (filter_map f xs)) is in
          let head : seen v ≡ s = cc in
          let rest : map seen ws ≡ filter_map f xs = cc in
          (first v s is head, next ws (i + 1) (Some (key_of (to v))) rest (path x, placed x s v is head, rise.0))

  pub made_in_order : (xs : List X) (vs : List A) → RiseBy path xs → map seen vs ≡ filter_map f xs
      → AllByRecursion (λ (e : Listed). InOrder e.entry e.front) (listed to 0 None vs)
  made_in_order xs vs rise e = made_from xs vs 0 None rise e tt

-- Places in the order of their paths

-- in the game folder
pub game_ordered : (p q : Place) (t u : List ℕ) → spot_of p ≡ game_spot t → spot_of q ≡ game_spot u → slice_cmp nat_cmp t u ≡ Less → ComesBefore p q
game_ordered p q t u e f less = (λ i. slice_cmp nat_cmp (text p t e i) (text q u f i)) ∙ less
  where
    text : (p : Place) (t : List ℕ) → spot_of p ≡ game_spot t → place_text p ≡ place_text (record { root = Game; rel = Some t })
    text p t e = ap place_text (same_place p (record { root = Game; rel = Some t }) e)

common_front : (xs a b : List ℕ) → slice_cmp nat_cmp (xs ++ a) (xs ++ b) ≡ slice_cmp nat_cmp a b
common_front [] a b = refl
common_front (x ∷ xs) a b = rw (itself x) (common_front xs a b)
  where
    itself : (n : ℕ) → nat_cmp n n ≡ Equal
    itself n = grind (arith, nat_tests)

abbrev behind_number : ℕ → List ℕ → List ℕ
behind_number n t = decimal n ++ 47 ∷ (root_word Game ++ 47 ∷ t)

abbrev aside_of_path : ℕ → List ℕ → Place
aside_of_path n t = record { root = Keep; rel = Some (aside_text n Game t) }

-- where files of the game folder are set aside under one number
pub aside_ordered : (n : ℕ) → n < 4294967296 → (p q : Place) (t u : List ℕ) → spot_of p ≡ aside_spot n (game_spot t) → spot_of q ≡ aside_spot n (game_spot u) → slice_cmp nat_cmp t u ≡ Less → ComesBefore p q
aside_ordered n small p q t u e f less =
    (λ i. slice_cmp nat_cmp (text p t e i) (text q u f i))
    ∙ common_front (codes "keep/aside/") (behind_number n t) (behind_number n u)
    ∙ common_front (decimal n) (47 ∷ (root_word Game ++ 47 ∷ t)) (47 ∷ (root_word Game ++ 47 ∷ u))
    ∙ less
  where
    text : (p : Place) (t : List ℕ) → spot_of p ≡ aside_spot n (game_spot t) → place_text p ≡ place_text (aside_of_path n t)
    text p t e = ap place_text (same_place p (aside_of_path n t) (e ∙ sym (λ i. record { root = Keep; names = aside_names n Game t small i })))
