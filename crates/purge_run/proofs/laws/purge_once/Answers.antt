use Rattle.purge_run.proofs.OnePlan.{purge_once, purge_is_one}
use Rattle.purge_run.proofs.laws.purge_once.Goals as goal

pub returns-clause-once : goal.returns-clause-once
returns-clause-once c = λ a old n p q dp dq. purge_once a old n p q dp dq

pub returns-clause-one : goal.returns-clause-one
returns-clause-one c = λ a old p q h k. purge_is_one a old p q h k
