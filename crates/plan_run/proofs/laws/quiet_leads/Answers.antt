use Rattle.tree_fs.specs.Story.{disk_of}
use Rattle.desk_model.specs.Desk.{desk}
use Rattle.desk_model.proofs.SameDesks.{same_trans}
use Rattle.plan_run.specs.Quiet.{IsDeskOf}
use Rattle.plan_run.proofs.Quieted.{quiet_leads, quiet_stops, still_stops}
use Rattle.plan_run.proofs.laws.quiet_leads.Goals as goal

pub returns-clause-leads : goal.returns-clause-leads
returns-clause-leads c = λ a quiet. quiet_leads a quiet

pub returns-clause-stops : goal.returns-clause-stops
returns-clause-stops c = quiet_stops

pub returns-clause-keeps : goal.returns-clause-keeps
returns-clause-keeps c = λ s quiet. still_stops (IsDeskOf (disk_of s)) (λ k l same is. same_trans k l (desk (disk_of s)) same is) s quiet
