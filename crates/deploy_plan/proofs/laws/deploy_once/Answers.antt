use Rattle.deploy_plan.proofs.OnePlan.{deploy_once}
use Rattle.deploy_plan.proofs.laws.deploy_once.Goals as goal

pub returns : goal.returns
returns c = λ a old wins p q dp dq. deploy_once a old wins p q dp dq
