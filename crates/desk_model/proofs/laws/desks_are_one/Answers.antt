use Rattle.desk_model.specs.Desk.{desk}
use Rattle.desk_model.proofs.Once.{deployed_once, settled_once, purged_once, edited_once}
use Rattle.desk_model.proofs.laws.desks_are_one.Goals as goal

pub returns-clause-deployed : goal.returns-clause-deployed
returns-clause-deployed c a k l wins = deployed_once a wins (desk k) (desk l)

pub returns-clause-settled : goal.returns-clause-settled
returns-clause-settled c a k l choice = settled_once a choice (desk k) (desk l)

pub returns-clause-purged : goal.returns-clause-purged
returns-clause-purged c a k l = purged_once a (desk k) (desk l)

pub returns-clause-edited : goal.returns-clause-edited
returns-clause-edited c a k l text = edited_once a text (desk k) (desk l)
