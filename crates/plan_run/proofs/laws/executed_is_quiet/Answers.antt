use Rattle.plan_run.proofs.Ended.{executed_quiet}
use Rattle.plan_run.proofs.laws.executed_is_quiet.Goals as goal

pub returns : goal.returns
returns c = executed_quiet
