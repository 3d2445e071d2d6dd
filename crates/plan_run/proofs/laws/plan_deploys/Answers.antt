use Rattle.tree_fs.specs.Story.{disk_of}
use Rattle.desk_model.specs.Desk.{desk}
use Rattle.desk_model.specs.Deployed.{Deployed}
use Rattle.plan_exec.specs.Ending.{IsPlanned}
use Rattle.plan_run.proofs.Ended.{planned_deployed, stops_on}
use Rattle.plan_run.proofs.laws.plan_deploys.Goals as goal

pub returns-clause-end : goal.returns-clause-end
returns-clause-end c = λ a e wins plan leads h. planned_deployed a plan wins leads (desk e) h.desk

pub returns-clause-stops : goal.returns-clause-stops
returns-clause-stops c = λ s t wins plan leads h. stops_on (IsPlanned (disk_of s) plan) (Deployed (disk_of s) wins) s t (planned_deployed (disk_of s) plan wins leads) h
