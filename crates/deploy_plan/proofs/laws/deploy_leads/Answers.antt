use Rattle.deploy_plan.proofs.DeployLeads.{deploy_leads}
use Rattle.deploy_plan.proofs.laws.deploy_leads.Goals as goal

pub returns : goal.returns
returns c = λ a wins plan can is. deploy_leads a wins can plan is
