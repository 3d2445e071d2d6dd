-- `deploy`: the mods are deployed.
use Rattle.std.specs.Prelude.{◌≡◌, ◌⊎◌, ℕ, ◌+◌, ◌*◌, List, [], ◌∷◌, ◌++◌, length}
use Rattle.tree_fs.specs.declared.place.Place.{Place}
use Rattle.tree_fs.specs.Story.{Along, disk_of}
use Rattle.move_plan.specs.declared.plan.Plan.{Plan}
use Rattle.move_plan.specs.Lines.{row_count}
use Rattle.desk_model.specs.Desk.{desk}
use Rattle.desk_model.specs.Deployed.{Deployed}
use Rattle.desk_model.specs.History.{KeepsPlain}
use Rattle.desk_model.specs.Standing.{Standing}
use Rattle.intent_journal.specs.Counts.{SyncsAtMost}
use Rattle.plan_exec.specs.Ending.{StopsOldOrNew}
use Rattle.plan_exec.specs.Middle.{MidWhileSet}
use Rattle.plan_run.specs.Concerned.{AreConcerned}
use Rattle.plan_run.specs.Quiet.{IsQuiet}
use Rattle.answer_lines.specs.declared.refusal.Refusal.TheVariants as group
use Rattle.answer_lines.specs.declared.refusal.PlanRefusal.TheVariants.{Blocked}
use Rattle.answer_lines.specs.declared.refusal.RecoveryRefusal.TheVariants.{SourceGone}
use Rattle.answer_lines.specs.declared.totals.Totals.TheVariants as totals
use Rattle.answer_lines.specs.Told.{total_lines}
use Rattle.command_steps.specs.declared.stop.Stop.{Stop}
use Rattle.command_steps.specs.declared.stop.Stop.TheVariants.{Refused}
use Rattle.command_steps.specs.Plans.{HasPlan, IsIdleOn}
use Rattle.command_steps.specs.Steps.{manifest, planned, fits}
use Rattle.command_steps.specs.Orders.{change_start, up_to_winners}
use Rattle.deploy_engine.specs.Works.{Course, Work, changing}

-- what a deployment leaves, where the first disk stands
pub record LeavesDeployed (c : Course) : Type 0 where
  pub plan : Plan
  pub has : HasPlan (disk_of c.base) plan
  -- the staged file of each winner is at its path, and all else is as it was
  pub deployed : Standing (disk_of c.start)
      → Deployed (disk_of c.base) has.wins (desk (disk_of c.end))
  -- nothing is pending, and there is no intent and no temp
  pub quiet : Standing (disk_of c.start) → IsQuiet (disk_of c.end)
  -- a plan that moves nothing adds no op
  pub idle : IsIdleOn (disk_of c.base) plan → c.end ≡ c.base

-- `deployed`, the rows of the new manifest, and the sets and saves of the plan
pub record PrintsDeployed (c : Course) (text : List ℕ) : Type 0 where
  pub plan : Plan
  pub has : HasPlan (disk_of c.base) plan
  pub lines : text ≡ total_lines
      (totals.Deployed (row_count plan.manifest) (length plan.sets) (length plan.saves))

-- how a deployment goes, where the first disk stands
pub record GoesDeploying (c : Course) : Type 0 where
  pub plan : Plan
  pub has : HasPlan (disk_of c.base) plan
  -- recovery of every stop leads to the old desk or to that of the deployment
  pub stops : Standing (disk_of c.start)
      → StopsOldOrNew (Deployed (disk_of c.base) has.wins) c.base c.end
  -- the game folder without mods stays
  pub keeps : Standing (disk_of c.start) → Along (KeepsPlain (disk_of c.base)) c.base c.end
  pub mid : Standing (disk_of c.start) → Along (MidWhileSet (disk_of c.base) plan) c.base c.end
  -- a folder in which something changes is synced at most four times
  pub syncs : (folders : List Place) → AreConcerned plan folders
      → SyncsAtMost (4 * length folders + 5) c.base c.end

-- the source of a step is gone, or something is in its way
abbrev pub IsInTheWay : Stop → Type 0
IsInTheWay stop =
    (place : Place) × ((stop ≡ Refused (group.Recovery (SourceGone place)))
    ⊎ (stop ≡ Refused (group.Plan (Blocked place))))

-- only where the first disk doesn't stand
abbrev pub GivesUpDeploying : Course → Stop → Type 0
GivesUpDeploying c stop = (¬ Standing (disk_of c.start)) × IsInTheWay stop

abbrev pub deploy_work : Work
deploy_work =
    changing (change_start ++ up_to_winners ++ manifest ∷ planned ∷ fits ∷ [])
    LeavesDeployed PrintsDeployed GoesDeploying GivesUpDeploying
