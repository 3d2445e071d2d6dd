use Rattle.std.proofs.Common.{arith}
use Rattle.intent_journal.proofs.Counting.{syncs_more, syncs_trans}
use Rattle.tree_fs.specs.Story.{disk_of}
use Rattle.intent_journal.proofs.Sweeping.{then_sync, synced_gone, synced_ops}
use Rattle.intent_journal.proofs.sweep.sweep.Goals as goal

pub returns-clause-stops : goal.returns-clause-stops
returns-clause-stops g c = λ told. then_sync _ _ _ (c.clear_temps.ensures.stops told) (c.sync_root.ensures.stops told)

pub returns-clause-ops : goal.returns-clause-ops
returns-clause-ops g c = λ told. synced_ops c.sync_root.result _ _ _ (disk_of (g.T.Tree.story c.args.tree.now)) (c.in_ok-clear_temps.ensures.ops told) (c.sync_root.ensures.ops told)

pub returns-clause-gone : goal.returns-clause-gone
returns-clause-gone g c = λ told. synced_gone c.sync_root.result _ _ (c.in_ok-clear_temps.ensures.gone told) (c.sync_root.ensures.stops told)

pub returns-in_err-clear_temps-clause-syncs : goal.returns-in_err-clear_temps-clause-syncs
returns-in_err-clear_temps-clause-syncs g c = λ told. syncs_more 0 1 _ _ (omega arith) (c.clear_temps.ensures.syncs told)

pub returns-clause-syncs : goal.returns-clause-syncs
returns-clause-syncs g c = λ told. syncs_trans 0 1 _ _ _ (c.clear_temps.ensures.syncs told) (c.sync_root.ensures.syncs told)
