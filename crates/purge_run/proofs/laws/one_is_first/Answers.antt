use Rattle.purge_run.proofs.OneFirst.{none_is_first, first_is_one}
use Rattle.purge_run.proofs.laws.one_is_first.Goals as goal

pub returns-clause-none : goal.returns-clause-none
returns-clause-none c = λ a rows error none is h. none_is_first a rows error none is h

pub returns-clause-one : goal.returns-clause-one
returns-clause-one c = λ a rows e f i j h k. first_is_one a rows e f i j h k
