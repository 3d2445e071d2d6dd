-- A deployment, from what was looked at to what it leaves.
use Rattle.std.proofs.Common.{◌≡◌, ◌⊎◌, [], ◌∷◌, ◌++◌, refl, sym, ap, subst, inl, inr}
use Rattle.std.specs.declared.option.Option.{Option}
use Rattle.std.specs.declared.option.Option.TheVariants.{Some}
use Rattle.std.specs.declared.result.Result.TheVariants.{Err}
use Rattle.tree_fs.specs.Disk.{Disk}
use Rattle.tree_fs.specs.Story.{Story, Along, disk_of}
use Rattle.tree_fs.proofs.Moments.{along_same}
use Rattle.manifest_json.specs.declared.manifest.Manifest.{Manifest}
use Rattle.move_plan.specs.declared.plan.Plan.{Plan}
use Rattle.move_plan.specs.Idle.{IsIdle}
use Rattle.move_plan.specs.Sound.{SoundPlan}
use Rattle.move_plan.proofs.Entries.{fault-not_passed}
use Rattle.desk_model.specs.Desk.{desk}
use Rattle.desk_model.specs.Deployed.{Deployed}
use Rattle.desk_model.specs.Outcome.{outcome_by}
use Rattle.desk_model.specs.Standing.{Standing}
use Rattle.intent_json.specs.Forms.{set_form}
use Rattle.intent_journal.specs.declared.error.ReadyError.TheVariants as ready
use Rattle.intent_journal.specs.Sweeps.{Sweeps}
use Rattle.plan_exec.specs.Ending.{Executed, IsPlanned}
use Rattle.plan_model.specs.Rows.{old_of}
use Rattle.deploy_plan.specs.Sources.{wins_of}
use Rattle.plan_run.specs.declared.error.RunError.{RunError}
use Rattle.plan_run.specs.declared.error.RunError.TheVariants as run
use Rattle.plan_run.specs.Quiet.{IsQuiet}
use Rattle.plan_run.specs.Runs.{CanRun, Fits, IsRunError, IsUnbegun, CanCome}
use Rattle.plan_run.proofs.Ended.{laid_out-needed, executed_quiet, planned_deployed, stops_on}
use Rattle.command_steps.specs.declared.limits.Limits.{Limits}
use Rattle.command_steps.specs.declared.stop.Stop.{Stop}
use Rattle.command_steps.specs.Manifests.{HasManifest}
use Rattle.command_steps.specs.declared.look.Looked.{Looked}
use Rattle.command_steps.specs.Found.{IsLooked}
use Rattle.command_steps.specs.Looks.{HasWins}
use Rattle.command_steps.specs.Plans.{HasPlan}
use Rattle.command_steps.proofs.OneWins.{one_wins}
use Rattle.command_steps.specs.Steps.{manifest, planned, fits, Nothing}
use Rattle.command_steps.specs.Orders.{change_start, up_to_winners, IsWhy, Passed}
use Rattle.command_steps.proofs.Orders.{and_then, stops_later}
use Rattle.deploy_engine.specs.Running.{run_stop, Runs, RunStops}
use Rattle.deploy_engine.specs.DeployWork.{LeavesDeployed, GoesDeploying, deploy_work}
use Rattle.deploy_engine.specs.Carried.{Carried}
use Rattle.deploy_engine.proofs.Carrying.{turned, failed, gave_up}
use Rattle.deploy_engine.proofs.Manifests.{idle_there}

-- the plan of a deployment on a disk, which is sound there and leads to the deployment
pub record FindsPlan (d : Disk) (plan : Plan) : Type 0 where
  pub has : HasPlan d plan
  pub sound : SoundPlan d plan
  pub leads : Deployed d has.wins (outcome_by d (Some (set_form plan)))

found_wins : (d : Disk) (found : Looked) → IsLooked d found → HasWins d (wins_of found.scans.items found.sources.items found.wins.items)
found_wins d found is = record {
  look = is.look;
  is_look = is.is;
  rows = found.wins.items;
  are_wins = is.wins;
  sources = found.sources.items;
  are_sources = is.sources;
  with_sources = ap (λ scans. wins_of scans found.sources.items found.wins.items) is.scans;
}

pub finds_plan : (d : Disk) (found : Looked) (plan : Plan) → IsLooked d found → HasPlan d plan → SoundPlan d plan → Deployed d (wins_of found.scans.items found.sources.items found.wins.items) (outcome_by d (Some (set_form plan))) → FindsPlan d plan
finds_plan d found plan is has sound leads = record {
  has = has;
  sound = sound;
  leads = subst (λ wins. Deployed d wins (outcome_by d (Some (set_form plan)))) (one_wins d _ has.wins (found_wins d found is) has.has_wins) leads;
}

module _ (limits : Limits) (old base : Story) (plan : Plan) (there : Option Manifest) (finds : FindsPlan (disk_of base) plan) (has : HasManifest (disk_of base) there) (quiet : Standing (disk_of old) → IsQuiet (disk_of base)) where
  can : Standing (disk_of old) → CanRun plan there (disk_of base)
  can standing = record {
    quiet = quiet standing;
    is_there = has;
    sound = finds.sound;
    needed = λ s made. laid_out-needed (disk_of base) (old_of (disk_of base)).folders plan finds.has.is.folders s made;
    one_plain = finds.leads.plain;
  }

  pub goes : (new : Story) → Runs plan there base new → GoesDeploying (record { start = old; base = base; end = new })
  goes new runs = record {
    plan = plan;
    has = finds.has;
    stops = λ standing. stops_on (IsPlanned (disk_of base) plan) (Deployed (disk_of base) finds.has.wins) base new (planned_deployed (disk_of base) plan finds.has.wins finds.leads) (runs.stops (can standing));
    keeps = λ standing. runs.keeps (can standing);
    mid = λ standing. runs.mid (can standing);
    syncs = runs.syncs;
  }

  pub leaves : (new : Story) → Runs plan there base new → (CanRun plan there (disk_of base) → Executed plan (disk_of base) (disk_of new)) → LeavesDeployed (record { start = old; base = base; end = new })
  leaves new runs done = record {
    plan = plan;
    has = finds.has;
    deployed = λ standing. planned_deployed (disk_of base) plan finds.has.wins finds.leads (desk (disk_of new)) (done (can standing)).desk;
    quiet = λ standing. executed_quiet plan (disk_of base) (disk_of new) (done (can standing));
    idle = λ is. runs.idle (idle_there (disk_of base) plan there has is);
  }

  pub fits_passed : IsIdle plan there ⊎ Fits plan limits.text → Passed (fits ∷ []) limits base base Nothing tt
  fits_passed (inl idle) = record { all = ((plan, finds.has, inl (record { there = there; has = has; idle = idle })), tt); story = refl; gives = tt }
  fits_passed (inr short) = record { all = ((plan, finds.has, inr short), tt); story = refl; gives = tt }

  module _ {V : Type 0} {G : V → Type 0} {v : V} (passed : Passed (change_start ++ up_to_winners ++ manifest ∷ planned ∷ []) limits old base G v) (swept : Along (Sweeps (disk_of old)) old base) (new : Story) (runs : Runs plan there base new) where
    by_error : (error : RunError) → IsRunError plan there limits.text error → (IsUnbegun error → new ≡ base) → (CanRun plan there (disk_of base) → CanCome error) → Carried deploy_work limits old new (Err (run_stop error))
    by_error (run.TooLong n) why unbegun comes =
        let refuses : IsWhy (fits ∷ []) limits base (run_stop (run.TooLong n)) new = record {
          why = inr (inl ((plan, finds.has, (λ idle. why.0 (idle_there (disk_of base) plan there has idle)), ready.TooLong n, why.1, refl), unbegun tt));
        } in
        turned (λ no. no) (stops_later passed refuses) (along_same (Sweeps (disk_of old)) old base new swept (unbegun tt))
    by_error (run.Unsound fault) why unbegun comes = absurd (fault-not_passed plan fault.rule fault.index why.1 finds.sound.rules)
    by_error (run.SourceGone place) why unbegun comes = gave_up (λ no. no) (and_then passed (fits_passed (inr why.1))) swept (goes new runs) ((λ standing. comes (can standing)), (place, inl refl))
    by_error (run.Blocked place) why unbegun comes = gave_up (λ no. no) (and_then passed (fits_passed (inr why.1))) swept (goes new runs) ((λ standing. comes (can standing)), (place, inr refl))
    by_error run.Failed why unbegun comes = failed (λ no. no) passed.story swept (goes new runs) tt
    by_error run.Memory why unbegun comes = failed (λ no. no) passed.story swept (goes new runs) tt

    pub stops_so : (stop : Stop) → RunStops plan there limits.text base new stop → Carried deploy_work limits old new (Err stop)
    stops_so stop is = subst (λ e. Carried deploy_work limits old new (Err e)) (sym is.is) (by_error is.error is.why is.unbegun is.comes)
