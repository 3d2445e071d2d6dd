use Rattle.std.proofs.Common.{None}
use Rattle.intent_journal.proofs.Between.{between_along}
use Rattle.intent_journal.proofs.Changing.{still_touched}
use Rattle.intent_journal.proofs.journal.finish.Goals as goal

pub returns-in-Ok-clause-leads : goal.returns-in-Ok-clause-leads
returns-in-Ok-clause-leads g c = λ told was holds both. between_along was None (g.T.Tree.story c.args.tree.now) _ both (c.close.ensures.stops told was both.firm holds)

pub returns-in-Err-clause-leads : goal.returns-in-Err-clause-leads
returns-in-Err-clause-leads g c = λ told was holds both. between_along was None (g.T.Tree.story c.args.tree.now) _ both (c.close.ensures.stops told was both.firm holds)

pub returns-in-Ok-clause-still : goal.returns-in-Ok-clause-still
returns-in-Ok-clause-still g c = λ told. still_touched (g.T.Tree.story c.args.tree.now) (g.T.Tree.story c.close.new.tree) (c.close.ensures.only told)

pub returns-in-Err-clause-still : goal.returns-in-Err-clause-still
returns-in-Err-clause-still g c = λ told. still_touched (g.T.Tree.story c.args.tree.now) (g.T.Tree.story c.close.new.tree) (c.close.ensures.only told)
