use Rattle.deploy_plan.proofs.DeploySound.{deploy_sound}
use Rattle.deploy_plan.proofs.laws.deploy_sound.Goals as goal

pub returns : goal.returns
returns c = λ a old wins plan can is. deploy_sound a old wins can plan is
