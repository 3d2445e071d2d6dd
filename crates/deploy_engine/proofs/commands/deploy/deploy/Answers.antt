use Rattle.deploy_engine.proofs.Carrying.{hand_on}
use Rattle.deploy_engine.proofs.Deployed.{carried_err, carried_ok}
use Rattle.deploy_engine.proofs.commands.deploy.deploy.Goals as goal

pub returns-in_err-deployment-clause-carried : goal.returns-in_err-deployment-clause-carried
returns-in_err-deployment-clause-carried g c = λ told. hand_on c.from_residual.ensures (carried_err (c.in_err-deployment.ensures.deploys told))

pub returns-clause-carried : goal.returns-clause-carried
returns-clause-carried g c = λ told. carried_ok c.in_ok-deployment.deployment (c.in_ok-deployment.ensures.deploys told)
