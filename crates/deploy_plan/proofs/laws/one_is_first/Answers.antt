use Rattle.deploy_plan.proofs.OneFirst.{none_is_first, first_is_one}
use Rattle.deploy_plan.proofs.laws.one_is_first.Goals as goal

pub returns-clause-none : goal.returns-clause-none
returns-clause-none c = λ a rows wins error none is h. none_is_first a rows wins error none is h

pub returns-clause-one : goal.returns-clause-one
returns-clause-one c = λ a rows wins e f i j h k. first_is_one a rows wins e f i j h k
