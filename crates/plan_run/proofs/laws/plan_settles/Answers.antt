use Rattle.tree_fs.specs.Story.{disk_of}
use Rattle.desk_model.specs.Desk.{desk}
use Rattle.desk_model.specs.Settled.{Settled}
use Rattle.plan_exec.specs.Ending.{IsPlanned}
use Rattle.plan_run.proofs.Ended.{planned_settled, stops_on}
use Rattle.plan_run.proofs.laws.plan_settles.Goals as goal

pub returns-clause-end : goal.returns-clause-end
returns-clause-end c = λ a e choice plan leads h. planned_settled a plan choice leads (desk e) h.desk

pub returns-clause-stops : goal.returns-clause-stops
returns-clause-stops c = λ s t choice plan leads h. stops_on (IsPlanned (disk_of s) plan) (Settled (disk_of s) choice) s t (planned_settled (disk_of s) plan choice leads) h
