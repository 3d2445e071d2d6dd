use Rattle.desk_model.proofs.Carried.{image-invariant, image-plain}
use Rattle.desk_model.proofs.laws.stops_keep.Goals as goal

pub returns-clause-invariant : goal.returns-clause-invariant
returns-clause-invariant c = image-invariant

pub returns-clause-plain : goal.returns-clause-plain
returns-clause-plain c = image-plain
