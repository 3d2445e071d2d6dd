-- Where each folder of the list that is still there has something in it, no folder is to be taken off.
use Rattle.std.proofs.Common.{◌≡◌, ◌≢◌, ℕ, zero, suc, ◌+◌, ◌<◌, Bool, true, false, if◌then◌else◌, List, [], ◌∷◌, ◌++◌, length, refl, sym, ap, ◌∙◌, inl, inr, subst, arith, append_assoc, length-append}
use Rattle.std.specs.List.{Contains}
use Rattle.list_laws.proofs.Containing.{contains_seam, parts}
use Rattle.tree_fs.specs.declared.place.Root.TheVariants.{Game}
use Rattle.tree_fs.specs.declared.place.Place.{Place}
use Rattle.tree_fs.specs.Spot.{Spot, spot_of, root_spot, parent, below, IsBelow}
use Rattle.tree_fs.specs.Disk.{Disk, Value, none}
use Rattle.tree_fs.specs.Calls.{IsFolder}
use Rattle.tree_fs.proofs.Spots.{spot_eq_tells, parent-below, is_entry-parent}
use Rattle.tree_fs.proofs.Below.{below-entry, below-trans}
use Rattle.tree_fs.proofs.KindOf.{absent-kind}
use Rattle.move_plan.specs.declared.plan.Plan.{Plan}
use Rattle.move_plan.specs.Places.{Has}
use Rattle.move_plan.specs.Rules.{PassesRules}
use Rattle.move_plan.proofs.Entries.{rule_2}
use Rattle.intent_journal.specs.declared.temp.Temp.TheVariants as temp
use Rattle.intent_journal.proofs.TempPlaces.{place-entry}
use Rattle.desk_model.specs.Places.{manifest_spot}
use Rattle.desk_model.specs.Desk.{without_manifest}
use Rattle.desk_model.specs.Outcome.{updated, IsTakenOff}
use Rattle.plan_exec.specs.TakingOff.{OffDone}
use Rattle.plan_exec.proofs.Order.{below_first}

elsewhere : (f : Spot → Value) (x : Spot) → x ≢ manifest_spot → without_manifest f x ≡ none → f x ≡ none
unfolding without_manifest
elsewhere f x ne is = elim (spot_eq_tells x manifest_spot) [
  | inl s ↦ absurd (ne s.1)
  | inr s ↦ sym (λ i. if s.0 i then none else f x) ∙ is
]

-- the manifest lies in no folder but the root
not_manifest : (s : Spot) (name : List ℕ) → s.names ≢ [] → below s name ≢ manifest_spot
not_manifest s name some is =
    let up : s ≡ root_spot Game = sym (parent-below s name) ∙ ap parent is ∙ is_entry-parent (root_spot Game) manifest_spot (place-entry temp.Manifest) in
    some (ap (λ (x : Spot). x.names) up)

module _ (plan : Plan) (passes : PassesRules plan) (d : Disk) (p : Plan) (same_off : p.folders_off ≡ plan.folders_off) (values : (x : Spot) → updated p d.now x ≡ d.now x) (done : OffDone plan.folders_off d) where
  abbrev Never : ℕ → Type 0
  Never n = (front later : List Place) (at : Place) → length front < n → plan.folders_off ≡ front ++ at ∷ later → IsFolder d (spot_of at) → IsTakenOff d p (spot_of at) → ⊥

  module _ (n : ℕ) (rest : Never n) (front later : List Place) (at : Place) (lt : length front < suc n) (split : plan.folders_off ≡ front ++ at ∷ later) (off : IsTakenOff d p (spot_of at)) where
    listed : Contains plan.folders_off at
    listed = subst (λ l. Contains l at) (sym split) (contains_seam front at later)

    earlier : (q : Place) → IsBelow (spot_of at) (spot_of q) → Contains plan.folders_off q → IsFolder d (spot_of q) → ⊥
    earlier q under c there =
        let cut = parts front q (below_first plan passes front later at q split c under) in
        let size : length front ≡ length cut.front + suc (length cut.back) = ap length cut.is ∙ length-append cut.front (q ∷ cut.back) in
        rest cut.front (cut.back ++ at ∷ later) q (omega (arith, size, lt)) (split ∙ ap (λ l. l ++ at ∷ later) cut.is ∙ append_assoc cut.front (q ∷ cut.back) (at ∷ later)) there
        (record {
          listed = subst (λ l. Has l (spot_of q)) (sym same_off) (record { place = q; listed = c; here = refl });
          no_value = λ x b. off.no_value x (below-trans (spot_of at) (spot_of q) x under b);
          no_folder = λ x b is. off.no_folder x (below-trans (spot_of at) (spot_of q) x under b) is;
        })

    no_folder : (name : List ℕ) (b : Bool) → d.folders (below (spot_of at) name) ≡ b → d.folders (below (spot_of at) name) ≡ false
    no_folder name false is = is
    no_folder name true is =
        let has = subst (λ l. Has l (below (spot_of at) name)) same_off (off.no_folder (below (spot_of at) name) (below-entry (spot_of at) name) (inl is)) in
        absurd (earlier has.place (subst (IsBelow (spot_of at)) (sym has.here) (below-entry (spot_of at) name)) has.listed (ap d.folders has.here ∙ is))

    never : IsFolder d (spot_of at) → ⊥
    never folder =
        let entry = done (spot_of at) (record { place = at; listed = listed; here = refl }) folder in
        let y = below (spot_of at) entry.0 in
        let gone : d.now y ≡ none = sym (values y) ∙ elsewhere (updated p d.now) y (not_manifest (spot_of at) entry.0 ((rule_2 plan passes).folders_off at listed).not_root) (off.no_value y (below-entry (spot_of at) entry.0)) in
        entry.1 (absent-kind d y (no_folder entry.0 (d.folders y) refl) gone)

  by_place : (n : ℕ) → Never n
  by_place zero front later at lt split folder off = omega arith
  by_place (suc n) front later at lt split folder off = never n (by_place n) front later at lt split off folder

  pub nothing_off : (s : Spot) → IsFolder d s → ¬ IsTakenOff d p s
  nothing_off s folder off =
      let has = subst (λ l. Has l s) same_off off.listed in
      let cut = parts plan.folders_off has.place has.listed in
      by_place (suc (length cut.front)) cut.front cut.back has.place (omega arith) cut.is (ap d.folders has.here ∙ folder) (subst (IsTakenOff d p) (sym has.here) off)
