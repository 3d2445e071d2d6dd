-- A settlement, from the plan to what it leaves.
use Rattle.std.proofs.Common.{◌≡◌, ◌⊎◌, List, [], ◌∷◌, refl, sym, ◌∙◌, subst, inl, inr}
use Rattle.std.specs.declared.option.Option.{Option}
use Rattle.std.specs.declared.option.Option.TheVariants.{Some}
use Rattle.std.specs.declared.result.Result.TheVariants.{Err}
use Rattle.tree_fs.specs.Disk.{Disk}
use Rattle.tree_fs.specs.Story.{Story, disk_of}
use Rattle.tree_fs.proofs.Moments.{along_same}
use Rattle.change_choices.specs.declared.choices.Choices.{Choices}
use Rattle.change_choices.specs.Choice.{choice}
use Rattle.manifest_json.specs.declared.manifest.Manifest.{Manifest}
use Rattle.move_plan.specs.declared.plan.Plan.{Plan}
use Rattle.move_plan.specs.Idle.{IsIdle}
use Rattle.move_plan.specs.Sound.{SoundPlan}
use Rattle.move_plan.proofs.Entries.{fault-not_passed}
use Rattle.desk_model.specs.Desk.{desk}
use Rattle.desk_model.specs.Outcome.{outcome_by}
use Rattle.desk_model.specs.Settled.{Settled}
use Rattle.desk_model.specs.Standing.{Standing}
use Rattle.intent_json.specs.Forms.{set_form}
use Rattle.intent_journal.specs.declared.error.ReadyError.TheVariants as ready
use Rattle.intent_journal.specs.Sweeps.{Sweeps}
use Rattle.plan_exec.specs.Ending.{Executed, IsPlanned}
use Rattle.plan_model.specs.Rows.{old_of}
use Rattle.plan_run.specs.declared.error.RunError.{RunError}
use Rattle.plan_run.specs.declared.error.RunError.TheVariants as run
use Rattle.plan_run.specs.Runs.{CanRun, Fits, IsRunError, IsUnbegun, CanCome}
use Rattle.plan_run.proofs.Ended.{laid_out-needed, executed_quiet, planned_settled, stops_on}
use Rattle.command_steps.specs.declared.limits.Limits.{Limits}
use Rattle.command_steps.specs.declared.stop.Stop.{Stop}
use Rattle.command_steps.specs.Manifests.{HasManifest}
use Rattle.command_steps.specs.Plans.{HasSettlePlan}
use Rattle.command_steps.specs.Steps.{Step, settled, settle_fits, Nothing}
use Rattle.command_steps.specs.Orders.{after_steps, AllPass, IsWhy, Passed}
use Rattle.command_steps.proofs.Orders.{after-append, and_then, stops_later}
use Rattle.deploy_engine.specs.Running.{run_stop, Runs, RunStops}
use Rattle.deploy_engine.specs.SettleWork.{LeavesSettled, GoesSettling, settling, Begins}
use Rattle.deploy_engine.specs.Carried.{Carried}
use Rattle.deploy_engine.proofs.Carrying.{turned, failed, gave_up}
use Rattle.deploy_engine.proofs.Manifests.{idle_there}

-- the plan of a settlement on a disk, which is sound there and leads to the settlement
pub record FindsSettlement (choices : Choices) (d : Disk) (plan : Plan) : Type 0 where
  pub has : HasSettlePlan choices d plan
  pub sound : SoundPlan d plan
  pub leads : Settled d (choice choices) (outcome_by d (Some (set_form plan)))

-- the steps so far are taken
pub begun : {steps : List Step} {limits : Limits} {old base : Story} → Begins steps limits old base → Passed steps limits old base Nothing tt
begun begins = record { all = begins.all; story = begins.story; gives = tt }

module _ (choices : Choices) (limits : Limits) (steps : List Step) (old base : Story) (begins : Begins steps limits old base) (plan : Plan) (there : Option Manifest) (finds : FindsSettlement choices (disk_of base) plan) (has : HasManifest (disk_of base) there) where
  can : Standing (disk_of old) → CanRun plan there (disk_of base)
  can standing = record {
    quiet = begins.quiet standing;
    is_there = has;
    sound = finds.sound;
    needed = λ s made. laid_out-needed (disk_of base) (old_of (disk_of base)).folders plan finds.has.is.folders s made;
    one_plain = finds.leads.plain;
  }

  pub goes : (new : Story) → Runs plan there base new → GoesSettling choices (record { start = old; base = base; end = new })
  goes new runs = record {
    plan = plan;
    has = finds.has;
    stops = λ standing. stops_on (IsPlanned (disk_of base) plan) (Settled (disk_of base) (choice choices)) base new (planned_settled (disk_of base) plan (choice choices) finds.leads) (runs.stops (can standing));
    keeps = λ standing. runs.keeps (can standing);
    mid = λ standing. runs.mid (can standing);
    syncs = runs.syncs;
  }

  pub leaves : (new : Story) → Runs plan there base new → (CanRun plan there (disk_of base) → Executed plan (disk_of base) (disk_of new)) → LeavesSettled choices (record { start = old; base = base; end = new })
  leaves new runs done = record {
    plan = plan;
    has = finds.has;
    desk_is = λ standing. planned_settled (disk_of base) plan (choice choices) finds.leads (desk (disk_of new)) (done (can standing)).desk;
    quiet = λ standing. executed_quiet plan (disk_of base) (disk_of new) (done (can standing));
    idle = λ is. runs.idle (idle_there (disk_of base) plan there has is);
  }

  pub fits_passed : IsIdle plan there ⊎ Fits plan limits.text → Passed (settle_fits choices ∷ []) limits base base Nothing tt
  fits_passed (inl idle) = record { all = ((plan, finds.has, inl (record { there = there; has = has; idle = idle })), tt); story = refl; gives = tt }
  fits_passed (inr short) = record { all = ((plan, finds.has, inr short), tt); story = refl; gives = tt }

  module _ (open_way : AllPass (settled choices ∷ []) limits base) where
    last : Passed (settled choices ∷ []) limits base base Nothing tt
    last = record { all = open_way; story = refl; gives = tt }

    -- all steps are taken
    pub whole : IsIdle plan there ⊎ Fits plan limits.text → Passed (settling steps choices).steps limits old base Nothing tt
    whole fit = and_then (begun begins) (and_then last (fits_passed fit))

    behind : base ≡ after_steps (settling steps choices).steps old
    behind = begins.story ∙ sym (after-append steps (settled choices ∷ settle_fits choices ∷ []) old)

    module _ (new : Story) (runs : Runs plan there base new) where
      by_error : (error : RunError) → IsRunError plan there limits.text error → (IsUnbegun error → new ≡ base) → (CanRun plan there (disk_of base) → CanCome error) → Carried (settling steps choices) limits old new (Err (run_stop error))
      by_error (run.TooLong n) why unbegun comes =
          let refuses : IsWhy (settle_fits choices ∷ []) limits base (run_stop (run.TooLong n)) new = record {
            why = inr (inl ((plan, finds.has, (λ idle. why.0 (idle_there (disk_of base) plan there has idle)), ready.TooLong n, why.1, refl), unbegun tt));
          } in
          turned (λ no. no) (stops_later (begun begins) (stops_later last refuses)) (along_same (Sweeps (disk_of old)) old base new begins.swept (unbegun tt))
      by_error (run.Unsound fault) why unbegun comes = absurd (fault-not_passed plan fault.rule fault.index why.1 finds.sound.rules)
      by_error (run.SourceGone place) why unbegun comes = gave_up (λ no. no) (whole (inr why.1)) begins.swept (goes new runs) ((λ standing. comes (can standing)), (place, inl refl))
      by_error (run.Blocked place) why unbegun comes = gave_up (λ no. no) (whole (inr why.1)) begins.swept (goes new runs) ((λ standing. comes (can standing)), (place, inr refl))
      by_error run.Failed why unbegun comes = failed (λ no. no) behind begins.swept (goes new runs) tt
      by_error run.Memory why unbegun comes = failed (λ no. no) behind begins.swept (goes new runs) tt

      pub stops_so : (stop : Stop) → RunStops plan there limits.text base new stop → Carried (settling steps choices) limits old new (Err stop)
      stops_so stop is = subst (λ e. Carried (settling steps choices) limits old new (Err e)) (sym is.is) (by_error is.error is.why is.unbegun is.comes)
