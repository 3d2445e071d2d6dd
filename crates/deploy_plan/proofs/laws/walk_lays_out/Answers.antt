use Rattle.deploy_plan.proofs.LaidByWalk.{laid_by_walk}
use Rattle.deploy_plan.proofs.laws.walk_lays_out.Goals as goal

pub returns : goal.returns
returns c = λ a rows wins plan old won sets saves clears order. laid_by_walk a rows wins old won plan sets saves clears order
