use Rattle.std.proofs.Common.{◌∙◌}
use Rattle.intent_journal.proofs.Finding.{guard_is, syncs_stand, adopted}
use Rattle.intent_journal.proofs.find.adopt_intent.Goals as goal

pub returns-in_err-sync_root-clause-stands : goal.returns-in_err-sync_root-clause-stands
returns-in_err-sync_root-clause-stands g c = λ told standing. syncs_stand _ _ standing (c.sync_root.ensures.stops told)

pub returns-clause-guard : goal.returns-clause-guard
returns-clause-guard g c = λ good. c.open_intent.ensures ∙ guard_is c.args.intent.now good

pub returns-clause-stands : goal.returns-clause-stands
returns-clause-stands g c = λ told standing. syncs_stand _ _ standing (c.sync_root.ensures.stops told)

pub returns-clause-done : goal.returns-clause-done
returns-clause-done g c = λ told. adopted c.args.intent.now (g.T.Tree.story c.args.tree.now) (g.T.Tree.story c.sync_root.new.tree) (c.requires told) (c.sync_root.ensures.stops told) (c.in_ok-sync_root.ensures.done told)
