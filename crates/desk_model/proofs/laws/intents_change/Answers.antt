use Rattle.desk_model.proofs.Noted.{intents-change}
use Rattle.desk_model.proofs.laws.intents_change.Goals as goal

pub returns : goal.returns
returns c = intents-change
