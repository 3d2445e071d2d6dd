-- A plan that a command carries out.
use Rattle.std.specs.Prelude.{◌≡◌, ℕ, ◌+◌, ◌*◌, List, length}
use Rattle.std.specs.declared.option.Option.{Option}
use Rattle.tree_fs.specs.declared.place.Place.{Place}
use Rattle.tree_fs.specs.Story.{Story, Along, disk_of}
use Rattle.manifest_json.specs.declared.manifest.Manifest.{Manifest}
use Rattle.move_plan.specs.declared.plan.Plan.{Plan}
use Rattle.move_plan.specs.Idle.{IsIdle}
use Rattle.desk_model.specs.History.{KeepsPlain}
use Rattle.intent_journal.specs.Counts.{SyncsAtMost}
use Rattle.plan_exec.specs.Ending.{IsPlanned, StopsOldOrNew}
use Rattle.plan_exec.specs.Middle.{MidWhileSet}
use Rattle.plan_run.specs.declared.error.RunError.{RunError}
use Rattle.plan_run.specs.declared.error.RunError.TheVariants as run
use Rattle.plan_run.specs.Concerned.{AreConcerned}
use Rattle.plan_run.specs.Runs.{CanRun, IsRunError, IsUnbegun, CanCome}
use Rattle.answer_lines.specs.declared.refusal.Refusal.TheVariants as group
use Rattle.answer_lines.specs.declared.refusal.PlanRefusal.TheVariants.{Blocked, PlanTooLong}
use Rattle.answer_lines.specs.declared.refusal.RecoveryRefusal.TheVariants.{SourceGone}
use Rattle.command_steps.specs.declared.stop.Stop.{Stop}
use Rattle.command_steps.specs.declared.stop.Stop.TheVariants.{Refused, TreeFault, Memory}

-- how a command stops at an error of a run; a plan that is made of a told disk is never unsound
abbrev pub run_stop : RunError → Stop
run_stop (run.TooLong n) = Refused (group.Plan (PlanTooLong n))
run_stop (run.Unsound fault) = Memory
run_stop (run.SourceGone place) = Refused (group.Recovery (SourceGone place))
run_stop (run.Blocked place) = Refused (group.Plan (Blocked place))
run_stop run.Failed = TreeFault
run_stop run.Memory = Memory

-- how a plan is carried out over the manifest that is there, whatever the answer
pub record Runs (plan : Plan) (there : Option Manifest) (old new : Story) : Type 0 where
  pub stops : CanRun plan there (disk_of old) → StopsOldOrNew (IsPlanned (disk_of old) plan) old new
  pub keeps : CanRun plan there (disk_of old) → Along (KeepsPlain (disk_of old)) old new
  pub mid : CanRun plan there (disk_of old) → Along (MidWhileSet (disk_of old) plan) old new
  pub idle : IsIdle plan there → new ≡ old
  pub syncs : (folders : List Place) → AreConcerned plan folders
      → SyncsAtMost (4 * length folders + 5) old new

-- why a plan isn't carried out, or not to its end, where the text may have so many bytes
pub record RunStops (plan : Plan) (there : Option Manifest) (most : ℕ) (old new : Story) (stop : Stop) : Type 0 where
  pub error : RunError
  pub is : stop ≡ run_stop error
  pub why : IsRunError plan there most error
  pub unbegun : IsUnbegun error → new ≡ old
  pub comes : CanRun plan there (disk_of old) → CanCome error
