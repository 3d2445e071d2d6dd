use Rattle.plan_run.proofs.Ended.{laid_out-needed}
use Rattle.plan_run.proofs.laws.folders_are_needed.Goals as goal

pub returns : goal.returns
returns c = laid_out-needed
