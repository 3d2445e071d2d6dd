-- An idle plan leads to the desk that is there.
use Rattle.std.proofs.Common.{◌≡◌, true, refl, sym, ap, ◌∙◌, inl, inr, subst}
use Rattle.std.specs.List.{Contains}
use Rattle.std.specs.declared.option.Option.{Option}
use Rattle.std.specs.declared.option.Option.TheVariants.{Some}
use Rattle.list_laws.proofs.Containing.{contains_none}
use Rattle.tree_fs.specs.Spot.{Spot}
use Rattle.tree_fs.specs.Disk.{Disk}
use Rattle.manifest_json.specs.declared.manifest.Manifest.{Manifest}
use Rattle.move_plan.specs.declared.plan.Plan.{Plan}
use Rattle.move_plan.specs.Idle.{IsIdle}
use Rattle.move_plan.specs.Places.{Has, IsDestination}
use Rattle.intent_json.specs.Forms.{set_form}
use Rattle.desk_model.specs.Desk.{view, desk_of, desk, SameDesk}
use Rattle.desk_model.specs.Outcome.{set_to, save_to, is_one_of, updated, IsThere, IsTakenOff, planned, outcome_by, recorded_or_none}
use Rattle.desk_model.proofs.Agreeing.{Alike, No, without-agree, desk_of-alike}
use Rattle.plan_exec.specs.Ending.{Executed}
use Rattle.plan_run.specs.Runs.{CanRun}

module _ (plan : Plan) (there : Option Manifest) (a : Disk) (can : CanRun plan there a) (idle : IsIdle plan there) where
  -- each place keeps its value
  still : (x : Spot) → a.now x ≡ updated plan a.now x
  unfolding updated is_one_of set_to save_to
  still x = rw (idle.no_clears, idle.no_sets, idle.no_saves) refl

  no_destination : (x : Spot) → ¬ IsDestination plan x
  no_destination x (inl is) = contains_none is.row (subst (λ l. Contains l is.row) idle.no_sets is.listed)
  no_destination x (inr is) = contains_none is.save (subst (λ l. Contains l is.save) idle.no_saves is.listed)

  no_folder : (s : Spot) → ¬ Has plan.folders s
  no_folder s has = let above = can.needed s has in no_destination above.place above.to

  none_off : (s : Spot) → ¬ IsTakenOff a plan s
  none_off s off = contains_none off.listed.place (subst (λ l. Contains l off.listed.place) idle.none_off off.listed.listed)

  was_there : (s : Spot) → IsThere a plan s → a.folders s ≡ true
  was_there s (inl is) = is
  was_there s (inr made) = absurd (no_folder s made)

  alike : Alike No (desk a) (desk_of (planned a plan))
  alike = desk_of-alike (view a) (planned a plan) (can.is_there ∙ ap recorded_or_none (sym idle.manifest))
      (λ x out. without-agree _ _ x (λ ne. still x))
      (λ s users. (λ h. (inl h, none_off s), λ h. was_there s h.0))

  pub idle_same : SameDesk (desk a) (outcome_by a (Some (set_form plan)))
  idle_same = record { plain = alike.plain; manifest = alike.manifest; found = alike.found; staged = alike.staged; aside = alike.aside; profile = refl; folders = alike.folders; bytes = λ n named. refl }

  -- nothing is left to do
  pub idle_executed : Executed plan a a
  idle_executed = record {
    desk = idle_same;
    standing = can.quiet.standing;
    settled = can.quiet.settled;
    no_intent = can.quiet.no_intent;
    no_temps = can.quiet.no_temps;
  }
