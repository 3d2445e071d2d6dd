use Rattle.deploy_plan.proofs.Placing.{sources_belong, winners_have_sources, winners_are_staged}
use Rattle.deploy_plan.proofs.laws.winners_are_scanned.Goals as goal

pub returns-clause-belong : goal.returns-clause-belong
returns-clause-belong c = λ a scans sources is. sources_belong a scans sources is

pub returns-clause-from : goal.returns-clause-from
returns-clause-from c = λ a scans sources order overrides rows is differ wins. winners_have_sources scans order overrides a sources rows is differ wins

pub returns-clause-staged : goal.returns-clause-staged
returns-clause-staged c = λ a scans sources order overrides rows is differ wins. winners_are_staged scans order overrides a sources rows is differ wins
