-- A plan that may be carried out.
use Rattle.std.proofs.Common.{◌≡◌, ℕ, Bool, true, false, Result, refl, sym, ap, ◌∙◌, inl}
use Rattle.std.specs.Prelude.{IsErrAnd}
use Rattle.std.specs.declared.result.Result.TheVariants.{Ok, Err}
use Rattle.fault_count.specs.Causes.{HasCause}
use Rattle.std.specs.declared.option.Option.{Option}
use Rattle.std.specs.declared.option.Option.TheVariants.{None, Some}
use Rattle.tree_fs.specs.Disk.{Disk}
use Rattle.tree_fs.specs.Story.{Story, disk_of, Along}
use Rattle.tree_fs.proofs.Moments.{along_here}
use Rattle.manifest_json.specs.declared.manifest.Manifest.{Manifest}
use Rattle.move_plan.specs.declared.plan.Plan.{Plan}
use Rattle.move_plan.specs.Rules.{PassesRules}
use Rattle.move_plan.proofs.Entries.{fault-not_passed}
use Rattle.intent_json.specs.Forms.{set_form}
use Rattle.intent_json.specs.declared.intent.Intent.{Intent}
use Rattle.desk_model.specs.Desk.{Desk}
use Rattle.desk_model.specs.History.{KeepsPlain}
use Rattle.desk_model.specs.Outcome.{intent_by}
use Rattle.desk_model.specs.Places.{intent_spot}
use Rattle.desk_model.specs.Standing.{MayBe, Invariant}
use Rattle.desk_model.specs.Stops.{Leads}
use Rattle.desk_model.proofs.SameDesks.{same_trans}
use Rattle.plan_exec.specs.Ending.{CanExecute, IsOldOr, IsPlanned, StopsOldOrNew}
use Rattle.plan_exec.specs.Middle.{MidWhileSet}
use Rattle.plan_exec.specs.Causes.{IsFault as IsExecFault}
use Rattle.plan_exec.specs.declared.error.ExecError.{ExecError}
use Rattle.plan_exec.specs.declared.error.ExecError.TheVariants as exec
use Rattle.plan_run.specs.declared.error.RunError.{RunError}
use Rattle.plan_run.specs.declared.error.RunError.TheVariants.{TooLong, Unsound, SourceGone, Blocked, Failed, Memory}
use Rattle.plan_run.specs.Errors.{of_exec}
use Rattle.plan_run.specs.Quiet.{IsQuiet}
use Rattle.plan_run.specs.Runs.{CanRun, Fits, IsReadyFault, IsFault, IsUnbegun, CanCome}
use Rattle.plan_run.proofs.Plains.{plain_along}
use Rattle.plan_run.proofs.Quieted.{no_value, to_desk, leads_by, still_stops}

pub executes : (plan : Plan) (there : Option Manifest) (a : Disk) → CanRun plan there a → CanExecute plan a
executes plan there a can = record {
  sound = can.sound;
  standing = can.quiet.standing;
  settled = can.quiet.settled;
  no_intent = can.quiet.no_intent;
  no_temps = can.quiet.no_temps;
  one_plain = can.one_plain;
}

-- what is not begun leaves all as it is
module _ (a : Disk) (quiet : IsQuiet a) where
  no_intent : (intent : Intent) → ¬ MayBe a intent
  no_intent intent may = let t : None ≡ Some intent = ap (intent_by a.bytes) (sym (no_value a quiet may.0 may.1)) ∙ may.2 in cc

  pub quiet_invariant : Invariant a
  quiet_invariant = record { standing = quiet.standing; off = λ clear other may may_other is s has. absurd (no_intent clear may) }

  pub quiet_plain : KeepsPlain a a
  quiet_plain = record { invariant = quiet_invariant; plain = refl }

  pub quiet_mid : (plan : Plan) → MidWhileSet a plan a
  quiet_mid plan may = absurd (no_intent (set_form plan) may)

  pub quiet_leaves : (new : Desk → Type 0) → Leads (IsOldOr a new) a
  quiet_leaves new = leads_by a quiet (IsOldOr a new) (λ k same. inl same)

module _ (plan : Plan) (s : Story) (quiet : IsQuiet (disk_of s)) where
  pub unbegun_stops : StopsOldOrNew (IsPlanned (disk_of s) plan) s s
  unbegun_stops = still_stops (IsPlanned (disk_of s) plan) (λ k l same is. same_trans k l _ same is) s quiet

  pub unbegun_keeps : Along (KeepsPlain (disk_of s)) s s
  unbegun_keeps = along_here (KeepsPlain (disk_of s)) s (quiet_plain (disk_of s) quiet)

  pub unbegun_mid : Along (MidWhileSet (disk_of s) plan) s s
  unbegun_mid = along_here (MidWhileSet (disk_of s) plan) s (quiet_mid (disk_of s) quiet plan)

-- what is carried out keeps the game folder without mods all along
pub run_keeps : (plan : Plan) (there : Option Manifest) (s t : Story) → CanRun plan there (disk_of s) → StopsOldOrNew (IsPlanned (disk_of s) plan) s t → Along Invariant s t → Along (KeepsPlain (disk_of s)) s t
run_keeps plan there s t can stops kept =
    let a = disk_of s in
    plain_along (IsPlanned a plan) s t (λ k same. same.plain ∙ can.one_plain) (to_desk a can.quiet (a.now intent_spot) (inl refl)).plain stops kept

-- Errors

pub ready_comes : (plan : Plan) (most : ℕ) (e : RunError) → PassesRules plan → IsReadyFault plan most e → CanCome e
ready_comes plan most (TooLong n) passes fault = tt
ready_comes plan most (Unsound f) passes fault = absurd (fault-not_passed plan f.rule f.index fault passes)
ready_comes plan most (SourceGone place) passes fault = absurd fault
ready_comes plan most (Blocked place) passes fault = absurd fault
ready_comes plan most Failed passes fault = tt
ready_comes plan most Memory passes fault = tt

pub exec_comes : (e : ExecError) → IsExecFault e → CanCome (of_exec e)
exec_comes (exec.SourceGone place) fault = absurd fault
exec_comes (exec.Blocked place) fault = absurd fault
exec_comes exec.Failed fault = tt
exec_comes exec.Memory fault = tt

pub exec_fault : (plan : Plan) (most : ℕ) (e : ExecError) → Fits plan most → IsFault plan most (of_exec e)
exec_fault plan most (exec.SourceGone place) fits = fits
exec_fault plan most (exec.Blocked place) fits = fits
exec_fault plan most exec.Failed fits = fits
exec_fault plan most exec.Memory fits = tt

-- the steps have begun
pub exec_begun : (e : ExecError) → ¬ IsUnbegun (of_exec e)
exec_begun (exec.SourceGone place) unbegun = unbegun
exec_begun (exec.Blocked place) unbegun = unbegun
exec_begun exec.Failed unbegun = unbegun
exec_begun exec.Memory unbegun = unbegun

exec_failed : (e : ExecError) → of_exec e ≡ Failed → e ≡ exec.Failed
exec_failed (exec.SourceGone place) is = absurd (cc)
exec_failed (exec.Blocked place) is = absurd (cc)
exec_failed exec.Failed is = refl
exec_failed exec.Memory is = absurd (cc)

same_error : (A : Type 0) (y z : RunError) → ◌≡◌ {A = Result A RunError} (Err y) (Err z) → y ≡ z
same_error A y z same = cc

-- what a fault of a step claims, the same fault of the run does
pub exec_cause : {A B : Type 0} (before now : ℕ) (r : Result A RunError) (step : Result B ExecError) (e : ExecError) → IsErrAnd r (λ x. x ≡ of_exec e) → step ≡ Err e → HasCause exec.Failed before now step → HasCause Failed before now r
exec_cause before now (Ok a) step e is from cause = absurd is
exec_cause before now (Err x) step e is from cause = record {
  later = cause.later;
  failed = λ blamed. cause.failed (from ∙ ap Err (exec_failed e (sym is ∙ same_error _ x Failed blamed)));
}

pub not_both : (b : Bool) → b ≡ false → ¬ (b ≡ true)
not_both b isnt is = let t : true ≡ false = sym is ∙ isnt in cc
