use Rattle.desk_model.proofs.Carried.{others-invariant, others-carry}
use Rattle.desk_model.proofs.laws.others_keep.Goals as goal

pub returns-clause-invariant : goal.returns-clause-invariant
returns-clause-invariant c = others-invariant

pub returns-clause-plain : goal.returns-clause-plain
returns-clause-plain c = others-carry
