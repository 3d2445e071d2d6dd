use Rattle.desk_model.proofs.Carried.{rest-invariant}
use Rattle.desk_model.proofs.laws.rest_stands.Goals as goal

pub returns : goal.returns
returns c = rest-invariant
