use Rattle.intent_journal.proofs.Installing.{then_stands}
use Rattle.desk_model.specs.Places.{intent_spot}
use Rattle.intent_journal.proofs.Clearing.{touched_syncs}
use Rattle.std.proofs.Common.{arith, None}
use Rattle.intent_journal.proofs.Counting.{syncs_more, syncs_trans}
use Rattle.intent_journal.proofs.Changing.{then_syncs, settled_none}
use Rattle.intent_journal.proofs.journal.close.Goals as goal

pub returns-clause-stops : goal.returns-clause-stops
returns-clause-stops g c = λ told was firm holds. then_syncs was None _ _ _ (c.remove.ensures.stops told was firm holds) (c.sync_root.ensures.stops told)

pub returns-clause-done : goal.returns-clause-done
returns-clause-done g c = λ told. settled_none (g.T.Tree.story c.remove.new.tree) (g.T.Tree.story c.sync_root.new.tree) _ (c.in_ok-remove.ensures.done told) (c.sync_root.ensures.stops told) (c.sync_root.ensures.done told)

pub returns-in_err-remove-clause-syncs : goal.returns-in_err-remove-clause-syncs
returns-in_err-remove-clause-syncs g c = λ told. syncs_more 0 1 _ _ (omega arith) (c.remove.ensures.syncs told)

pub returns-clause-syncs : goal.returns-clause-syncs
returns-clause-syncs g c = λ told. syncs_trans 0 1 _ _ _ (c.remove.ensures.syncs told) (c.sync_root.ensures.syncs told)

pub returns-clause-only : goal.returns-clause-only
returns-clause-only g c = λ told. touched_syncs intent_spot _ _ _ (c.remove.ensures.only told) (c.sync_root.ensures.stops told)

pub returns-clause-stands : goal.returns-clause-stands
returns-clause-stands g c = λ told standing. then_stands _ _ _ (c.remove.ensures.stands told standing) (c.sync_root.ensures.stops told)
