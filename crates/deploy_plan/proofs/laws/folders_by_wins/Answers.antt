use Rattle.deploy_plan.proofs.Made.{made-missing, missing-made}
use Rattle.deploy_plan.proofs.Gets.{only_own_goes}
use Rattle.deploy_plan.proofs.laws.folders_by_wins.Goals as goal

pub returns-clause-made : goal.returns-clause-made
returns-clause-made c = λ a old wins plan can laid s. (λ h. made-missing a old wins can plan laid s h, λ h. missing-made a old wins can plan laid s h)

pub returns-clause-off : goal.returns-clause-off
returns-clause-off c = λ a old wins plan can laid s g. only_own_goes a old wins can plan laid s g
