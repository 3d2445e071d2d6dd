-- `settle`: what others changed is settled.
use Rattle.std.specs.Prelude.{◌≡◌, ℕ, ◌+◌, ◌*◌, List, [], ◌∷◌, ◌++◌, length}
use Rattle.std.specs.declared.option.Option.TheVariants.{None}
use Rattle.tree_fs.specs.declared.place.Place.{Place}
use Rattle.tree_fs.specs.Disk.{Disk}
use Rattle.tree_fs.specs.Story.{Story, Along, disk_of}
use Rattle.change_choices.specs.declared.action.Action.{Action}
use Rattle.change_choices.specs.declared.choices.Choices.{Choices}
use Rattle.change_choices.specs.Choice.{choice}
use Rattle.change_detect.specs.Refusals.{first_blocked}
use Rattle.move_plan.specs.declared.plan.Plan.{Plan}
use Rattle.desk_model.specs.Desk.{desk}
use Rattle.desk_model.specs.Records.{rows_on}
use Rattle.desk_model.specs.Settled.{Settled}
use Rattle.desk_model.specs.History.{KeepsPlain}
use Rattle.desk_model.specs.Standing.{Standing}
use Rattle.intent_journal.specs.Counts.{SyncsAtMost}
use Rattle.intent_journal.specs.Sweeps.{Sweeps}
use Rattle.plan_exec.specs.Ending.{StopsOldOrNew}
use Rattle.plan_exec.specs.Middle.{MidWhileSet}
use Rattle.plan_run.specs.Concerned.{AreConcerned}
use Rattle.plan_run.specs.Quiet.{IsQuiet}
use Rattle.answer_lines.specs.declared.totals.Totals.TheVariants as totals
use Rattle.answer_lines.specs.Told.{total_lines}
use Rattle.command_steps.specs.declared.limits.Limits.{Limits}
use Rattle.command_steps.specs.Inputs.{changes_on, answers_in}
use Rattle.command_steps.specs.Manifests.{HasManifest}
use Rattle.command_steps.specs.Plans.{HasSettlePlan, IsIdleOn}
use Rattle.command_steps.specs.Steps.{Step, manifest, changes, answers, settled, settle_fits}
use Rattle.command_steps.specs.Orders.{change_start, after_steps, AllPass}
use Rattle.deploy_engine.specs.declared.commands.settle.Found.{Found}
use Rattle.deploy_engine.specs.DeployWork.{GivesUpDeploying}
use Rattle.deploy_engine.specs.Works.{Course, Work, changing}

-- the choices with these actions for single paths
abbrev pub with_paths : Choices → List (List ℕ × Action) → Choices
with_paths choices paths = record choices { paths = paths }

-- what a settlement leaves, where the first disk stands
pub record LeavesSettled (choices : Choices) (c : Course) : Type 0 where
  pub plan : Plan
  pub has : HasSettlePlan choices (disk_of c.base) plan
  -- each row that wasn't clean is as its action says, and all else is as it was
  pub desk_is : Standing (disk_of c.start)
      → Settled (disk_of c.base) (choice choices) (desk (disk_of c.end))
  -- nothing is pending, and there is no intent and no temp
  pub quiet : Standing (disk_of c.start) → IsQuiet (disk_of c.end)
  -- a plan that moves nothing adds no op
  pub idle : IsIdleOn (disk_of c.base) plan → c.end ≡ c.base

-- `settled`, the changes, and the sets and saves of the plan
pub record PrintsSettled (choices : Choices) (c : Course) (text : List ℕ) : Type 0 where
  pub plan : Plan
  pub has : HasSettlePlan choices (disk_of c.base) plan
  pub lines : text ≡ total_lines
      (totals.Settled (length (changes_on (disk_of c.base))) (length plan.sets)
      (length plan.saves))

-- how a settlement goes, where the first disk stands
pub record GoesSettling (choices : Choices) (c : Course) : Type 0 where
  pub plan : Plan
  pub has : HasSettlePlan choices (disk_of c.base) plan
  -- recovery of every stop leads to the old desk or to that of the settlement
  pub stops : Standing (disk_of c.start)
      → StopsOldOrNew (Settled (disk_of c.base) (choice choices)) c.base c.end
  -- the game folder without mods stays
  pub keeps : Standing (disk_of c.start) → Along (KeepsPlain (disk_of c.base)) c.base c.end
  pub mid : Standing (disk_of c.start) → Along (MidWhileSet (disk_of c.base) plan) c.base c.end
  -- a folder in which something changes is synced at most four times
  pub syncs : (folders : List Place) → AreConcerned plan folders
      → SyncsAtMost (4 * length folders + 5) c.base c.end

-- by these choices, behind these steps
abbrev pub settling : List Step → Choices → Work
settling steps choices =
    changing (steps ++ settled choices ∷ settle_fits choices ∷ [])
    (LeavesSettled choices) (PrintsSettled choices) (GoesSettling choices) GivesUpDeploying

-- what a settlement takes first
abbrev pub up_to_changes : List Step
up_to_changes = change_start ++ manifest ∷ changes ∷ []

-- by the actions of classes alone
abbrev pub settle_work : Choices → Work
settle_work choices = settling up_to_changes (with_paths choices [])

-- by the actions that the lines of an input say, and those of classes
abbrev pub answered_work : List ℕ → Choices → Work
answered_work input choices =
    settling (up_to_changes ++ answers input ∷ []) (with_paths choices (answers_in input))

-- what is found is what is there
pub record AreFound (d : Disk) (found : Found) : Type 0 where
  pub there : HasManifest d found.there
  pub changes : found.changes.items ≡ changes_on d
  pub told : first_blocked d (rows_on d) ≡ None

-- the steps of a settlement so far are taken, from the first disk
pub record Begins (steps : List Step) (limits : Limits) (start base : Story) : Type 0 where
  pub all : AllPass steps limits start
  pub story : base ≡ after_steps steps start
  pub swept : Along (Sweeps (disk_of start)) start base
  pub quiet : Standing (disk_of start) → IsQuiet (disk_of base)
