use Rattle.change_settle.proofs.SettleLeads.{settle_leads}
use Rattle.change_settle.proofs.laws.settle_leads.Goals as goal

pub returns : goal.returns
returns c = λ choice a n plan can is. settle_leads choice a n can plan is
