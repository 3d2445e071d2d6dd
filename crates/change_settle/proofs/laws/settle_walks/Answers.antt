use Rattle.change_settle.proofs.Walks.{laid_by_pass}
use Rattle.change_settle.proofs.laws.settle_walks.Goals as goal

pub returns : goal.returns
returns c = λ choice a rows n plan kept sets saves clears order. laid_by_pass choice a rows n kept plan sets saves clears order
