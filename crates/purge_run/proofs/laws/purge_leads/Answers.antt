use Rattle.purge_run.proofs.PurgeLeads.{purge_leads}
use Rattle.purge_run.proofs.laws.purge_leads.Goals as goal

pub returns : goal.returns
returns c = λ a n plan can is. purge_leads a n can plan is
