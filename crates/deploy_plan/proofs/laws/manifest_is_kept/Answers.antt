use Rattle.deploy_plan.proofs.NextRows.{rows_kept}
use Rattle.deploy_plan.proofs.OwnKept.{own_kept}
use Rattle.deploy_plan.proofs.laws.manifest_is_kept.Goals as goal

pub returns-clause-rows : goal.returns-clause-rows
returns-clause-rows c = λ a rows wins kept sound rights. rows_kept a rows kept wins sound rights

pub returns-clause-own : goal.returns-clause-own
returns-clause-own c = λ a old wins plan next can laid own. own_kept a old wins can plan laid next own
