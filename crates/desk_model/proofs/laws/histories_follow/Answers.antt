use Rattle.desk_model.proofs.Carried.{history-follows}
use Rattle.desk_model.proofs.laws.histories_follow.Goals as goal

pub returns : goal.returns
returns g c = history-follows g.C.Calls.runs
