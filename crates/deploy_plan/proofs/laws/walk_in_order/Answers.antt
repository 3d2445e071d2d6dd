use Rattle.deploy_plan.proofs.LaidByWalk.{sets_ordered}
use Rattle.deploy_plan.proofs.laws.walk_in_order.Goals as goal

pub returns : goal.returns
returns c = λ a rows wins plan old won sets. sets_ordered a rows wins old won plan sets
