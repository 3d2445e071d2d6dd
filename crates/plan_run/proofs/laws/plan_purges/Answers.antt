use Rattle.tree_fs.specs.Story.{disk_of}
use Rattle.desk_model.specs.Desk.{desk}
use Rattle.desk_model.specs.Purged.{Purged}
use Rattle.plan_exec.specs.Ending.{IsPlanned}
use Rattle.plan_run.proofs.Ended.{planned_purged, stops_on}
use Rattle.plan_run.proofs.laws.plan_purges.Goals as goal

pub returns-clause-end : goal.returns-clause-end
returns-clause-end c = λ a e plan leads h. planned_purged a plan leads (desk e) h.desk

pub returns-clause-stops : goal.returns-clause-stops
returns-clause-stops c = λ s t plan leads h. stops_on (IsPlanned (disk_of s) plan) (Purged (disk_of s)) s t (planned_purged (disk_of s) plan leads) h
