-- The folders above a place, one after the other.
use Rattle.std.proofs.Common.{◌≡◌, ◌≢◌, ◌⊎◌, ◌↔◌, ◌<◌, ℕ, Bool, true, false, not, cond, List, [], ◌∷◌, ◌++◌, length, take, take_all, map, Vec, Global, IfOk, ◌≤◌, refl, sym, ap, ◌∙◌, inl, inr, subst, arith}
use Rattle.std.specs.List.{Contains}
use Rattle.std.specs.Option.{is_some}
use Rattle.std.specs.declared.option.Option.{Option}
use Rattle.std.specs.declared.result.Result.{Result}
use Rattle.std.specs.declared.result.Result.TheVariants.{Ok, Err}
use Rattle.std.specs.declared.option.Option.TheVariants.{None, Some}
use Rattle.std.proofs.lemmas.List.Elements.{Contains-append_left, Contains-append_right}
use Rattle.list_laws.proofs.Truths.{none-from_is_some}
use Rattle.list_laws.proofs.Containing.{contains_here, contains_map, map_contains, last_cases}
use Rattle.tree_fs.specs.declared.place.Place.{Place}
use Rattle.tree_fs.specs.Spot.{Spot, spot_of, names_below, parent, front_names, has_some}
use Rattle.tree_fs.specs.Places.{folder_above}
use Rattle.tree_fs.proofs.Spots.{same_place, not_nameless}
use Rattle.desk_model.proofs.Cases.{empty}
use Rattle.deploy_plan.proofs.Parented.{up_to_parent, above_from_parent}
use Rattle.change_settle.specs.Above.{IsFolderAbove, IsAboveOne, AddsAbove, AreAbove, NoneAbove, IsOutermostOf}

-- the parent of a place, where it has one
parent_is : (ns : List (List ℕ)) (x y : Spot) → Some y ≡ cond (has_some ns) (Some x) None → (ns ≢ []) × (y ≡ x)
parent_is [] x y e = absurd (cc)
parent_is (n ∷ ns) x y e = (λ is. cc, cc)

front_shorter : (n : List ℕ) (ns : List (List ℕ)) → length (front_names (n ∷ ns)) < length (n ∷ ns)
front_shorter n [] = omega arith
front_shorter n (m ∷ ms) = let h = front_shorter m ms in omega (arith, h)

parent_shorter : (ns : List (List ℕ)) → ns ≢ [] → length (front_names ns) < length ns
parent_shorter [] some = absurd (some refl)
parent_shorter (n ∷ ns) some = front_shorter n ns

pub shorter : (x y : Spot) → Some y ≡ folder_above x → length y.names < length x.names
unfolding parent
shorter x y e = let h = parent_is x.names (parent x) y e in subst (λ (z : Spot). length z.names < length x.names) (sym h.1) (parent_shorter x.names h.0)

module _ (x : Spot) where
  up : (s : Spot) → IsFolderAbove s x → (s ≡ parent x) ⊎ IsFolderAbove s (parent x)
  up s h = elim (up_to_parent s x h.below) [ inl is ↦ inl is | inr b ↦ inr (record { below = b; some = h.some }) ]

  below_root : (parent x).names ≡ [] → (s : Spot) → ¬ IsFolderAbove s x
  below_root root s h = elim (up s h) [
    | inl is ↦ h.some (ap (λ (z : Spot). z.names) is ∙ root)
    | inr f ↦ empty s.names f.below.name f.below.rest (sym root ∙ f.below.names)
  ]

  module _ (some : x.names ≢ []) where
    above_parent : (s : Spot) → IsFolderAbove s (parent x) → IsFolderAbove s x
    above_parent s h = record { below = above_from_parent s x some (inr h.below); some = h.some }

    the_parent : (parent x).names ≢ [] → IsFolderAbove (parent x) x
    the_parent named = record { below = above_from_parent (parent x) x some (inl refl); some = named }

-- Folders that come to a list

pub adds_root : (x y : Spot) (found : List Spot) → Some y ≡ folder_above x → y.names ≡ [] → AddsAbove x found found
adds_root x y found e root s =
    let p = parent_is x.names (parent x) y e in
    (λ c. inl c, λ h. elim h [ inl c ↦ c | inr f ↦ absurd (below_root x (ap (λ (z : Spot). z.names) (sym p.1) ∙ root) s f) ])

pub adds_more : (x y : Spot) (old mid new : List Spot) → Some y ≡ folder_above x → y.names ≢ [] → AddsAbove y old mid → new ≡ mid ++ y ∷ [] → AddsAbove x old new
adds_more x y old mid new e named adds is s =
    let p = parent_is x.names (parent x) y e in (
      λ c. elim (last_cases mid y s (subst (λ l. Contains l s) is c)) [
        | inl front ↦ elim ((adds s).0 front) [
          | inl before ↦ inl before
          | inr f ↦ inr (above_parent x p.0 s (subst (IsFolderAbove s) p.1 f))
        ]
        | inr last ↦ inr (subst (λ z. IsFolderAbove z x) (sym (last ∙ p.1)) (the_parent x p.0 (λ top. named (ap (λ (z : Spot). z.names) p.1 ∙ top))))
      ],
      λ h. subst (λ l. Contains l s) (sym is) (elim h [
        | inl before ↦ Contains-append_left mid (y ∷ []) s ((adds s).1 (inl before))
        | inr f ↦ elim (up x s f) [
          | inl parent_too ↦ subst (Contains (mid ++ y ∷ [])) (p.1 ∙ sym parent_too) (Contains-append_right mid (y ∷ []) y (contains_here y []))
          | inr g ↦ Contains-append_left mid (y ∷ []) s ((adds s).1 (inr (subst (IsFolderAbove s) (sym p.1) g)))
        ]
      ]),
    )

-- of one place more
pub above_more : (places more : List Spot) (x : Spot) (old new : List Spot) → more ≡ places ++ x ∷ [] → ((s : Spot) → Contains old s → IsAboveOne places s) → ((s : Spot) → IsAboveOne places s → Contains old s) → AddsAbove x old new
    → ((s : Spot) → Contains new s → IsAboveOne more s) × ((s : Spot) → IsAboveOne more s → Contains new s)
above_more places more x old new is to from adds = (
  λ s c. elim ((adds s).0 c) [
    | inl before ↦ let h = to s before in record { place = h.place; among = subst (λ l. Contains l h.place) (sym is) (Contains-append_left places (x ∷ []) h.place h.among); above = h.above }
    | inr f ↦ record { place = x; among = subst (λ l. Contains l x) (sym is) (Contains-append_right places (x ∷ []) x (contains_here x [])); above = f }
  ],
  λ s h. (adds s).1 (elim (last_cases places x h.place (subst (λ l. Contains l h.place) is h.among)) [
    | inl front ↦ inl (from s (record { place = h.place; among = front; above = h.above }))
    | inr last ↦ inr (subst (IsFolderAbove s) last h.above)
  ]),
)

-- The outermost one

pub none_root : (blocked : List Spot) (x y : Spot) → Some y ≡ folder_above x → y.names ≡ [] → NoneAbove blocked x
none_root blocked x y e root s c f = let p = parent_is x.names (parent x) y e in below_root x (ap (λ (z : Spot). z.names) (sym p.1) ∙ root) s f

pub further : (blocked : List Spot) (x y s : Spot) → Some y ≡ folder_above x → IsOutermostOf blocked y s → IsOutermostOf blocked x s
further blocked x y s e h =
    let p = parent_is x.names (parent x) y e in
    record { among = h.among; above = above_parent x p.0 s (subst (IsFolderAbove s) p.1 h.above); outermost = h.outermost }

pub right_here : (blocked : List Spot) (x y : Spot) → Some y ≡ folder_above x → y.names ≢ [] → NoneAbove blocked y → Contains blocked y → IsOutermostOf blocked x y
right_here blocked x y e named none c =
    let p = parent_is x.names (parent x) y e in
    record { among = c; above = subst (λ z. IsFolderAbove z x) (sym p.1) (the_parent x p.0 (λ top. named (ap (λ (z : Spot). z.names) p.1 ∙ top))); outermost = none }

pub nowhere : (blocked : List Spot) (x y : Spot) → Some y ≡ folder_above x → NoneAbove blocked y → ¬ Contains blocked y → NoneAbove blocked x
nowhere blocked x y e none off s c f =
    let p = parent_is x.names (parent x) y e in
    elim (up x s f) [
      | inl is ↦ off (subst (Contains blocked) (is ∙ sym p.1) c)
      | inr g ↦ none s c (subst (IsFolderAbove s) (sym p.1) g)
    ]

-- Lists with the same places

pub spots_same : (left places : List Place) → ((p : Place) → (Contains left p ↔ Contains places p)) → (s : Spot) → (Contains (map spot_of left) s ↔ Contains (map spot_of places) s)
spots_same left places same s = (
  λ c. let m = contains_map spot_of left s c in subst (Contains (map spot_of places)) m.2 (map_contains spot_of places m.0 ((same m.0).0 m.1)),
  λ c. let m = contains_map spot_of places s c in subst (Contains (map spot_of left)) m.2 (map_contains spot_of left m.0 ((same m.0).1 m.1)),
)

pub above_left : (places : List Spot) (found left : List Place) → AreAbove places (map spot_of found) → ((p : Place) → (Contains left p ↔ Contains found p)) → AreAbove places (map spot_of left)
above_left places found left above same s = let k = spots_same left found same s in (λ c. (above s).0 (k.0 c), λ h. k.1 ((above s).1 h))

-- A place, by its spot

pub rel_none : (p : Place) (b : Bool) → is_some p.rel ≡ not b → b ≡ true → (spot_of p).names ≡ []
rel_none p b e is = ap names_below (none-from_is_some p.rel (e ∙ ap not is))

pub rel_some : (p : Place) (b : Bool) → is_some p.rel ≡ not b → b ≡ false → (spot_of p).names ≢ []
rel_some p b e is = by p.rel (e ∙ ap not is)
  where
    by : (o : Option (List ℕ)) → is_some o ≡ true → names_below o ≢ []
    by None h = absurd (cc)
    by (Some path) h = not_nameless path

pub spot_contains : (places : List Place) (p : Place) → Contains places p → Contains (map spot_of places) (spot_of p)
spot_contains places p c = map_contains spot_of places p c

pub spot_absent : (places : List Place) (p : Place) → Contains (map spot_of places) (spot_of p) → Contains places p
spot_absent places p c = let m = contains_map spot_of places (spot_of p) c in subst (Contains places) (same_place m.0 p m.2) m.1

pub above_answer : {E : Type 0} (places : List Place) (i : ℕ) (found : List Place) → length places ≤ i → AreAbove (map spot_of (take i places)) (map spot_of found)
    → (r : Result (Vec Place Global) E) → IfOk r (λ left. (p : Place) → (Contains left.items p ↔ Contains found p)) → IfOk r (λ left. AreAbove (map spot_of places) (map spot_of left.items))
above_answer places i found low above (Err e) h = tt
above_answer places i found low above (Ok left) h = above_left (map spot_of places) found left.items (subst (λ l. AreAbove (map spot_of l) (map spot_of found)) (take_all i places low) above) h

pub spots_answer : {E : Type 0} (places : List Place) (spots : List Spot) → map spot_of places ≡ spots → (r : Result (Vec Place Global) E) → IfOk r (λ left. (p : Place) → (Contains left.items p ↔ Contains places p))
    → IfOk r (λ left. (x : Spot) → (Contains (map spot_of left.items) x ↔ Contains spots x))
spots_answer places spots is (Err e) h = tt
spots_answer places spots is (Ok left) h = λ x. subst (λ l. Contains (map spot_of left.items) x ↔ Contains l x) is (spots_same left.items places h x)
