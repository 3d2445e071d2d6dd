use Rattle.deploy_plan.proofs.Decided.{turned_decided, walk_decided}
use Rattle.deploy_plan.proofs.laws.first_or_none.Goals as goal

pub returns-clause-turned : goal.returns-clause-turned
returns-clause-turned c = λ rows wins. turned_decided rows wins

pub returns-clause-walk : goal.returns-clause-walk
returns-clause-walk c = λ a rows wins rise won. walk_decided a rows wins rise won
