use Rattle.change_settle.proofs.OneFirst.{none_is_first, first_is_one}
use Rattle.change_settle.proofs.laws.one_is_first.Goals as goal

pub returns-clause-none : goal.returns-clause-none
returns-clause-none c = λ choice a rows error none is h. none_is_first choice a rows error none is h

pub returns-clause-one : goal.returns-clause-one
returns-clause-one c = λ choice a rows e f kept i j h k. first_is_one choice a rows e f kept i j h k
