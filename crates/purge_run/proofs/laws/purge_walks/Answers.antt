use Rattle.purge_run.proofs.PurgeWalks.{laid_by_pass}
use Rattle.purge_run.proofs.laws.purge_walks.Goals as goal

pub returns : goal.returns
returns c = λ a rows n plan old sets saves clears order. laid_by_pass a rows n plan old sets saves clears order
