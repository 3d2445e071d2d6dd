-- A plan that passes the rules passes them without its folders to make, saves and sets.
use Rattle.std.proofs.Common.{◌≡◌, ℕ, ◌+◌, List, [], ◌∷◌, refl, inl, inr}
use Rattle.std.specs.List.{AllByRecursion}
use Rattle.std.specs.declared.option.Option.{Option}
use Rattle.std.specs.declared.option.Option.TheVariants.{None, Some}
use Rattle.list_laws.proofs.Alls.{all_append, all_left, all_right}
use Rattle.list_laws.proofs.Containing.{contains_none}
use Rattle.tree_fs.specs.declared.place.Place.{Place}
use Rattle.tree_fs.specs.Spot.{Spot, spot_of}
use Rattle.move_plan.specs.declared.plan.Plan.{Plan}
use Rattle.move_plan.specs.Places.{IsSetTo}
use Rattle.move_plan.specs.Entries.{Entry, folder, save, set, clear, off, Listed, listed}
use Rattle.move_plan.specs.Rules.{Rule, in_order, avoids_controls, source_stays, save_stays, keeping, clear_is_used, save_is_back, back_stays, apart, Keeps, PassesRules, MovesSome}
use Rattle.intent_json.specs.declared.intent.Phase.{Phase}
use Rattle.intent_json.specs.declared.intent.Phase.TheVariants.{Set, Clear}
use Rattle.intent_json.specs.Forms.{bare_of, form_of, with_steps}

-- in the clear phase a plan's intent has no steps
pub bare_form : (phase : Phase) (plan : Plan) → phase ≡ Clear → with_steps phase [] [] [] plan ≡ form_of phase plan
unfolding bare_of
bare_form Clear plan is = refl
bare_form Set plan is = let never : ⊥ = cc in absurd never

abbrev at_entry : Entry → ℕ → Option Place → Listed
at_entry e i front = record { index = i; front = front; entry = e }

module _ (plan : Plan) where
  no_set : (x : Spot) → ¬ IsSetTo (bare_of plan) x
  unfolding bare_of
  no_set x is = absurd (contains_none is.row is.listed)

  no_moves : MovesSome (bare_of plan) → ⊥
  unfolding bare_of
  no_moves (inl some) = some refl
  no_moves (inr some) = some refl

  clear_keeps : (rule : Rule) (i : ℕ) (front : Option Place) (p : Place) → Keeps rule plan (at_entry (clear p) i front) → Keeps rule (bare_of plan) (at_entry (clear p) i front)
  clear_keeps in_order i front p h = h
  clear_keeps avoids_controls i front p h = h
  clear_keeps source_stays i front p h = tt
  clear_keeps save_stays i front p h = tt
  clear_keeps keeping i front p h = (no_set (spot_of p), h.1)
  clear_keeps clear_is_used i front p h = λ moves. absurd (no_moves moves)
  clear_keeps save_is_back i front p h = tt
  clear_keeps back_stays i front p h = tt
  clear_keeps apart i front p h = tt

  off_keeps : (rule : Rule) (i : ℕ) (front : Option Place) (p : Place) → Keeps rule plan (at_entry (off p) i front) → Keeps rule (bare_of plan) (at_entry (off p) i front)
  off_keeps in_order i front p h = h
  off_keeps avoids_controls i front p h = h
  off_keeps source_stays i front p h = tt
  off_keeps save_stays i front p h = tt
  off_keeps keeping i front p h = tt
  off_keeps clear_is_used i front p h = tt
  off_keeps save_is_back i front p h = tt
  off_keeps back_stays i front p h = tt
  off_keeps apart i front p h = h

  clears_keep : (rule : Rule) (i : ℕ) (front : Option Place) (ps : List Place) → AllByRecursion (Keeps rule plan) (listed clear i front ps) → AllByRecursion (Keeps rule (bare_of plan)) (listed clear i front ps)
  clears_keep rule i front [] h = tt
  clears_keep rule i front (p ∷ ps) h = (clear_keeps rule i front p h.0, clears_keep rule (i + 1) (Some p) ps h.1)

  offs_keep : (rule : Rule) (i : ℕ) (front : Option Place) (ps : List Place) → AllByRecursion (Keeps rule plan) (listed off i front ps) → AllByRecursion (Keeps rule (bare_of plan)) (listed off i front ps)
  offs_keep rule i front [] h = tt
  offs_keep rule i front (p ∷ ps) h = (off_keeps rule i front p h.0, offs_keep rule (i + 1) (Some p) ps h.1)

  pub bare_passes : PassesRules plan → PassesRules (bare_of plan)
  unfolding bare_of
  bare_passes passes rule =
      let P = Keeps rule plan in
      let clears = listed clear 0 None plan.clears in
      let offs = listed off 0 None plan.folders_off in
      let saves = all_right P (listed folder 0 None plan.folders) _ (passes rule) in
      let sets = all_right P (listed save 0 None plan.saves) _ saves in
      let late = all_right P (listed set 0 None plan.sets) _ sets in
      all_append (Keeps rule (bare_of plan)) clears offs (clears_keep rule 0 None plan.clears (all_left P clears offs late)) (offs_keep rule 0 None plan.folders_off (all_right P clears offs late))
