-- `recover`: what a stopped command has begun is carried to its end.
use Rattle.std.specs.Prelude.{◌≡◌, ◌≤◌, ℕ, ◌+◌, List, [], ◌∷◌, ◌++◌, length}
use Rattle.std.specs.declared.option.Option.{Option}
use Rattle.std.specs.declared.option.Option.TheVariants.{None, Some}
use Rattle.tree_fs.specs.declared.place.Place.{Place}
use Rattle.tree_fs.specs.Disk.{Disk, IsValid}
use Rattle.tree_fs.specs.Story.{Story, Along, disk_of}
use Rattle.move_plan.specs.declared.plan.Plan.{Plan}
use Rattle.move_plan.specs.Sound.{SoundPlan}
use Rattle.intent_json.specs.declared.intent.Intent.{Intent}
use Rattle.intent_json.specs.Forms.{set_form}
use Rattle.desk_model.specs.Mid.{Mid}
use Rattle.desk_model.specs.Standing.{Invariant, Standing}
use Rattle.desk_model.specs.Stops.{Leads}
use Rattle.intent_journal.specs.Counts.{SyncsAtMost}
use Rattle.intent_journal.specs.Found.{IsFound, IsThere}
use Rattle.intent_journal.specs.Ready.{AreFolders, saved_places, set_places}
use Rattle.answer_lines.specs.declared.fixed.FixedLine.TheVariants.{NothingToRecover}
use Rattle.answer_lines.specs.declared.refusal.Refusal.TheVariants as group
use Rattle.answer_lines.specs.declared.refusal.PlanRefusal.TheVariants.{Blocked}
use Rattle.answer_lines.specs.declared.refusal.RecoveryRefusal.TheVariants.{BadIntent, SourceGone}
use Rattle.answer_lines.specs.Told.{fixed_line, recovered_line}
use Rattle.plan_exec.specs.Ending.{IsEnd}
use Rattle.plan_exec.specs.Middle.{MidWhileSet}
use Rattle.plan_exec.specs.Steps.{ToOutcomeOf}
use Rattle.recover_run.specs.declared.error.RecoverError.{RecoverError}
use Rattle.recover_run.specs.declared.error.RecoverError.TheVariants as recover
use Rattle.recover_run.specs.Recovery.{HasIntent, IsSwept}
use Rattle.command_steps.specs.declared.stop.Stop.{Stop}
use Rattle.command_steps.specs.declared.stop.Stop.TheVariants.{Refused, TreeFault, Memory}
use Rattle.command_steps.specs.Steps.{intent}
use Rattle.command_steps.specs.Orders.{recover_start}
use Rattle.deploy_engine.specs.Works.{Course, Work, changing}

-- why the command stops where recovery does
abbrev pub recover_stop : RecoverError → Stop
recover_stop recover.BadIntent = Refused (group.Recovery BadIntent)
recover_stop (recover.SourceGone p) = Refused (group.Recovery (SourceGone p))
recover_stop (recover.Blocked p) = Refused (group.Plan (Blocked p))
recover_stop recover.Failed = TreeFault
recover_stop recover.Memory = Memory

-- the line of the intent that stands, or that none does
abbrev pub recovery_line : Option Intent → List ℕ
recovery_line None = fixed_line NothingToRecover
recovery_line (Some i) = recovered_line (length i.plan.sets) (length i.plan.clears)

-- the line of the intent that stood at the start
pub record PrintsRecovered (c : Course) (text : List ℕ) : Type 0 where
  pub found : Option Intent
  pub is_found : IsFound (disk_of c.start) found
  pub line : text ≡ recovery_line found

-- where the first disk stands, the desk at the end is the one that it leads to; nothing is pending,
-- and there is no intent and no temp
abbrev pub LeavesRecovered : Course → Type 0
LeavesRecovered c = Standing (disk_of c.start) → IsEnd (disk_of c.start) (disk_of c.end)

-- how a recovery goes
pub record GoesRecovering (c : Course) : Type 0 where
  -- recovery of every stop leads where that of the first disk leads
  pub leads : Standing (disk_of c.start)
      → Along (Leads (ToOutcomeOf (disk_of c.start))) c.base c.end
  pub keeps : Invariant (disk_of c.start) → Along Invariant c.base c.end
  pub mid : Standing (disk_of c.start) → (a : Disk) (plan : Plan) → SoundPlan a plan → IsValid a
      → a.fresh ≤ (disk_of c.start).fresh → IsThere (set_form plan) (disk_of c.start)
      → Mid a plan (disk_of c.start) → Along (MidWhileSet a plan) c.base c.end
  -- a folder of the intent's plan is synced at most once a step
  pub syncs : (i : Intent) → IsThere i (disk_of c.start)
      → (saved set cleared : List Place) → AreFolders (saved_places i.plan) saved
      → AreFolders (set_places i.plan) set → AreFolders i.plan.clears cleared
      → SyncsAtMost
      (length saved + length set + length cleared + length i.plan.folders_off + 5) c.base c.end

-- the same, told from behind the barrier
pub record Resumes (s t : Story) : Type 0 where
  pub leads : IsSwept (disk_of s) → Along (Leads (ToOutcomeOf (disk_of s))) s t
  pub keeps : IsSwept (disk_of s) → Invariant (disk_of s) → Along Invariant s t
  pub mid : IsSwept (disk_of s) → (a : Disk) (plan : Plan) → SoundPlan a plan → IsValid a
      → a.fresh ≤ (disk_of s).fresh → IsThere (set_form plan) (disk_of s)
      → Mid a plan (disk_of s) → Along (MidWhileSet a plan) s t
  pub syncs : (i : Intent) → IsThere i (disk_of s)
      → (saved set cleared : List Place) → AreFolders (saved_places i.plan) saved
      → AreFolders (set_places i.plan) set → AreFolders i.plan.clears cleared
      → SyncsAtMost
      (length saved + length set + length cleared + length i.plan.folders_off + 5) s t

-- the source of a step is gone, or something is in its way
pub data IsStepRefusal (stop : Stop) : Type 0 where
  blocked : (p : Place) → stop ≡ Refused (group.Plan (Blocked p)) → IsStepRefusal stop
  source_gone : (p : Place) → stop ≡ Refused (group.Recovery (SourceGone p)) → IsStepRefusal stop

-- only where an intent stands and the disk behind the barrier doesn't
pub record IsStuck (d : Disk) (stop : Stop) : Type 0 where
  pub unsound : ¬ IsSwept d
  pub stands : HasIntent d
  pub told : IsStepRefusal stop

-- only where an intent stands and the first disk doesn't
pub record GivesUpRecovering (c : Course) (stop : Stop) : Type 0 where
  pub unsound : ¬ Standing (disk_of c.start)
  pub stands : HasIntent (disk_of c.start)
  pub told : IsStepRefusal stop

abbrev pub recover_work : Work
recover_work =
    changing (recover_start ++ intent ∷ [])
    LeavesRecovered PrintsRecovered GoesRecovering GivesUpRecovering
