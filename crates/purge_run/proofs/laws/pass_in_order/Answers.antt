use Rattle.purge_run.proofs.PurgeWalks.{sets_ordered, saves_ordered}
use Rattle.purge_run.proofs.laws.pass_in_order.Goals as goal

pub returns-clause-sets : goal.returns-clause-sets
returns-clause-sets c = λ a rows n plan old sets. sets_ordered a rows n plan old sets

pub returns-clause-saves : goal.returns-clause-saves
returns-clause-saves c = λ a rows n plan old small saves. saves_ordered a rows n plan old small saves
