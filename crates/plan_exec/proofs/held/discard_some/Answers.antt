use Rattle.tree_fs.proofs.Moments.{along_here}
use Rattle.intent_journal.proofs.Counting.{syncs_none}
use Rattle.intent_journal.proofs.Temping.{temped_same}
use Rattle.plan_exec.proofs.held.discard_some.Goals as goal

pub returns-in-None-clause-stops : goal.returns-in-None-clause-stops
returns-in-None-clause-stops g c = λ told which is. along_here _ _ (temped_same which _ (g.met.T.Tree.valid _ told))

pub returns-in-None-clause-syncs : goal.returns-in-None-clause-syncs
returns-in-None-clause-syncs g c = λ told. syncs_none _
