use Rattle.change_settle.proofs.OnePlan.{settle_once}
use Rattle.change_settle.proofs.laws.settle_once.Goals as goal

pub returns : goal.returns
returns c = λ choice a old n p q dp dq. settle_once choice a old n p q dp dq
