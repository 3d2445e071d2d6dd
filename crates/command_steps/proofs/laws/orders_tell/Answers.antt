use Rattle.command_steps.proofs.Orders.{none_first, one_first}
use Rattle.command_steps.proofs.Refusing.{exclusive, unique}
use Rattle.command_steps.proofs.laws.orders_tell.Goals as goal

pub returns-clause-none : goal.returns-clause-none
returns-clause-none c = λ steps limits s stop new all first. none_first exclusive steps limits s stop new all first

pub returns-clause-one : goal.returns-clause-one
returns-clause-one c = λ steps limits s one other new left a b. one_first exclusive unique steps limits s one other new left a b
