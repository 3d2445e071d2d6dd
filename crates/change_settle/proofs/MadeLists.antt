-- The folders that are made, as they are listed.
use Rattle.std.proofs.Common.{◌≡◌, ◌≢◌, ◌⊎◌, ◌↔◌, Bool, true, false, if◌then◌else◌, IfOk, Vec, Global, List, [], ◌∷◌, ◌++◌, map, filter_map, refl, sym, ap, ◌∙◌, subst, inl, inr}
use Rattle.std.specs.List.{Contains}
use Rattle.std.specs.declared.option.Option.TheVariants.{None, Some}
use Rattle.std.specs.declared.result.Result.{Result}
use Rattle.std.specs.declared.result.Result.TheVariants.{Ok, Err}
use Rattle.std.proofs.lemmas.List.{map-append}
use Rattle.std.proofs.lemmas.List.Elements.{Contains-append_left, Contains-append_right, Contains-append_cases}
use Rattle.list_laws.proofs.Containing.{contains_map, map_contains, contains_filter_map, filter_map_contains}
use Rattle.tree_fs.specs.declared.place.Place.{Place}
use Rattle.tree_fs.specs.Spot.{Spot, spot_of}
use Rattle.tree_fs.proofs.Spots.{same_place}
use Rattle.tree_fs.proofs.Texts.{place_eq_tells}
use Rattle.backup_keep.specs.Places.{aside_folder}
use Rattle.change_settle.specs.Above.{IsAboveOne, AreAbove, IsAsideAbove, new_aside}
use Rattle.change_settle.proofs.Above.{spots_same}

new_tells : (there : Bool) (aside q p : Place) → new_aside there aside q ≡ Some p → (q ≡ p) × (there ≡ true → q ≢ aside)
new_tells false aside q p e = (cc, λ no. absurd (cc))
new_tells true aside q p e = elim (place_eq_tells q aside) [
  | inl same ↦ (let no : None ≡ Some p = sym (ap (λ b. if b then None else Some q) same.0) ∙ e in absurd (cc))
  | inr differs ↦ (let is : Some q ≡ Some p = sym (ap (λ b. if b then None else Some q) differs.0) ∙ e in (cc, λ yes. differs.1))
]

new_made : (there : Bool) (aside q : Place) → (there ≡ true → q ≢ aside) → new_aside there aside q ≡ Some q
new_made false aside q h = refl
new_made true aside q h = elim (place_eq_tells q aside) [
  | inl same ↦ absurd (h refl same.1)
  | inr differs ↦ ap (λ b. if b then None else Some q) differs.0
]

module _ (missing : List Place) (saves : List (Place × Place)) (there : Bool) (asides above : List Place) (aside : Place) (new : List Place)
    (asides_are : asides ≡ map (λ (v : Place × Place). v.1) saves) (above_are : AreAbove (map spot_of asides) (map spot_of above)) (aside_is : spot_of aside ≡ aside_folder)
    (new_is : new ≡ filter_map (new_aside there aside) above) where
  save_spots : map spot_of asides ≡ map (λ (v : Place × Place). spot_of v.1) saves
  save_spots = ap (map spot_of) asides_are ∙ mapped saves
    where
      mapped : (vs : List (Place × Place)) → map spot_of (map (λ (v : Place × Place). v.1) vs) ≡ map (λ (v : Place × Place). spot_of v.1) vs
      mapped [] = refl
      mapped (v ∷ vs) = ap (λ l. spot_of v.1 ∷ l) (mapped vs)

  new_are : (s : Spot) → (Contains (map spot_of new) s ↔ IsAsideAbove there saves s)
  new_are s = (
    λ c.
        let p = contains_map spot_of new s c in
        let q = contains_filter_map (new_aside there aside) above p.0 (subst (λ l. Contains l p.0) new_is p.1) in
        let t = new_tells there aside q.0 p.0 q.2 in
        let at : spot_of q.0 ≡ s = ap spot_of t.0 ∙ p.2 in
        record {
          above = subst (λ l. IsAboveOne l s) save_spots ((above_are s).0 (subst (Contains (map spot_of above)) at (map_contains spot_of above q.0 q.1)));
          new = λ yes is. t.1 yes (same_place q.0 aside (at ∙ is ∙ sym aside_is));
        },
    λ h.
        let q = contains_map spot_of above s ((above_are s).1 (subst (λ l. IsAboveOne l s) (sym save_spots) h.above)) in
        let made = new_made there aside q.0 (λ yes is. h.new yes (sym q.2 ∙ ap spot_of is ∙ aside_is)) in
        subst (Contains (map spot_of new)) q.2 (map_contains spot_of new q.0 (subst (λ l. Contains l q.0) (sym new_is) (filter_map_contains (new_aside there aside) above q.0 q.0 q.1 made))),
  )

  pub made_answer : {E : Type 0} (all : List Place) → all ≡ missing ++ new → (r : Result (Vec Place Global) E) → IfOk r (λ left. (p : Place) → (Contains left.items p ↔ Contains all p))
      → IfOk r (λ left. (s : Spot) → (Contains (map spot_of left.items) s ↔ Contains (map spot_of missing) s ⊎ IsAsideAbove there saves s))
  made_answer all is (Err e) h = tt
  made_answer all is (Ok left) h = λ s.
      let same = spots_same left.items all h s in
      let split : map spot_of all ≡ map spot_of missing ++ map spot_of new = ap (map spot_of) is ∙ map-append spot_of missing new in (
        λ c. elim (Contains-append_cases (map spot_of missing) (map spot_of new) s (subst (λ l. Contains l s) split (same.0 c))) [ inl m ↦ inl m | inr k ↦ inr ((new_are s).0 k) ],
        λ k. same.1 (subst (λ l. Contains l s) (sym split) (elim k [
          | inl m ↦ Contains-append_left (map spot_of missing) (map spot_of new) s m
          | inr h ↦ Contains-append_right (map spot_of missing) (map spot_of new) s ((new_are s).1 h)
        ])),
      )
