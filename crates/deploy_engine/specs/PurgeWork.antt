-- `purge`: what was deployed is taken off.
use Rattle.std.specs.Prelude.{◌≡◌, ℕ, ◌+◌, ◌*◌, List, [], ◌∷◌, ◌++◌, length}
use Rattle.tree_fs.specs.declared.place.Place.{Place}
use Rattle.tree_fs.specs.Story.{Along, disk_of}
use Rattle.move_plan.specs.declared.plan.Plan.{Plan}
use Rattle.desk_model.specs.Desk.{desk}
use Rattle.desk_model.specs.Purged.{Purged}
use Rattle.desk_model.specs.Records.{rows_on}
use Rattle.desk_model.specs.History.{KeepsPlain}
use Rattle.desk_model.specs.Standing.{Standing}
use Rattle.intent_journal.specs.Counts.{SyncsAtMost}
use Rattle.plan_exec.specs.Ending.{StopsOldOrNew}
use Rattle.plan_exec.specs.Middle.{MidWhileSet}
use Rattle.plan_run.specs.Concerned.{AreConcerned}
use Rattle.plan_run.specs.Quiet.{IsQuiet}
use Rattle.answer_lines.specs.declared.totals.Totals.TheVariants as totals
use Rattle.answer_lines.specs.Told.{total_lines}
use Rattle.command_steps.specs.Plans.{HasPurgePlan, IsIdleOn}
use Rattle.command_steps.specs.Steps.{manifest, purged, purge_fits}
use Rattle.command_steps.specs.Orders.{change_start}
use Rattle.deploy_engine.specs.DeployWork.{GivesUpDeploying}
use Rattle.deploy_engine.specs.Works.{Course, Work, changing}

-- what a purge leaves, where the first disk stands
pub record LeavesPurged (c : Course) : Type 0 where
  pub plan : Plan
  pub has : HasPurgePlan (disk_of c.base) plan
  -- there is no manifest, originals are back, what stood over links is set aside, and all else is
  -- as it was
  pub desk_is : Standing (disk_of c.start) → Purged (disk_of c.base) (desk (disk_of c.end))
  -- nothing is pending, and there is no intent and no temp
  pub quiet : Standing (disk_of c.start) → IsQuiet (disk_of c.end)
  -- a plan that moves nothing adds no op
  pub idle : IsIdleOn (disk_of c.base) plan → c.end ≡ c.base

-- `purged`, the rows of the old manifest, and the sets and saves of the plan
pub record PrintsPurged (c : Course) (text : List ℕ) : Type 0 where
  pub plan : Plan
  pub has : HasPurgePlan (disk_of c.base) plan
  pub lines : text ≡ total_lines
      (totals.Purged (length (rows_on (disk_of c.base))) (length plan.sets) (length plan.saves))

-- how a purge goes, where the first disk stands
pub record GoesPurging (c : Course) : Type 0 where
  pub plan : Plan
  pub has : HasPurgePlan (disk_of c.base) plan
  -- recovery of every stop leads to the old desk or to that of the purge
  pub stops : Standing (disk_of c.start) → StopsOldOrNew (Purged (disk_of c.base)) c.base c.end
  -- the game folder without mods stays
  pub keeps : Standing (disk_of c.start) → Along (KeepsPlain (disk_of c.base)) c.base c.end
  pub mid : Standing (disk_of c.start) → Along (MidWhileSet (disk_of c.base) plan) c.base c.end
  -- a folder in which something changes is synced at most four times
  pub syncs : (folders : List Place) → AreConcerned plan folders
      → SyncsAtMost (4 * length folders + 5) c.base c.end

abbrev pub purge_work : Work
purge_work =
    changing (change_start ++ manifest ∷ purged ∷ purge_fits ∷ [])
    LeavesPurged PrintsPurged GoesPurging GivesUpDeploying
