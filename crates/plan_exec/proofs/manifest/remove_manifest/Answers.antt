use Rattle.std.proofs.Common.{arith}
use Rattle.intent_journal.proofs.Counting.{syncs_more, syncs_trans}
use Rattle.list_laws.proofs.Truths.{if_err-from_same}
use Rattle.tree_fs.specs.Story.{disk_of}
use Rattle.plan_exec.specs.Causes.{IsFault}
use Rattle.plan_exec.proofs.Manifests.{touched, touched_synced, gone_done, temp_still, open_fault}
use Rattle.plan_exec.proofs.manifest.remove_manifest.Goals as goal

pub returns-in_err-take-clause-stops : goal.returns-in_err-take-clause-stops
returns-in_err-take-clause-stops g c = λ told. touched _ (g.T.Tree.story c.args.tree.now) _ c.control.ensures (c.take.ensures.stops told).along

pub returns-in_err-take-clause-fault : goal.returns-in_err-take-clause-fault
returns-in_err-take-clause-fault g c = λ told.
    if_err-from_same IsFault c.from_residual.result c.in_err-take.field-0.0 c.from_residual.ensures.1
    (open_fault (disk_of (g.T.Tree.story c.args.tree.now)) c.control.result c.in_err-take.field-0.0 c.control.ensures (c.requires told) (c.in_err-take.ensures.told told))

pub returns-in_err-sync_both-clause-stops : goal.returns-in_err-sync_both-clause-stops
returns-in_err-sync_both-clause-stops g c = λ told. touched_synced _ (g.T.Tree.story c.args.tree.now) (g.T.Tree.story c.take.new.tree) _ c.control.ensures (c.take.ensures.stops told).along (c.sync_both.ensures.stops told)

pub returns-clause-stops : goal.returns-clause-stops
returns-clause-stops g c = λ told. touched_synced _ (g.T.Tree.story c.args.tree.now) (g.T.Tree.story c.take.new.tree) _ c.control.ensures (c.take.ensures.stops told).along (c.sync_both.ensures.stops told)

pub returns-clause-done : goal.returns-clause-done
returns-clause-done g c = λ told. gone_done _ (g.T.Tree.story c.take.new.tree) (g.T.Tree.story c.sync_both.new.tree) c.control.ensures (c.in_ok-take.ensures.done told) (c.sync_both.ensures.stops told) (c.in_ok-sync_both.ensures.game told)

pub returns-clause-temp : goal.returns-clause-temp
returns-clause-temp g c = λ told absent. temp_still _ (g.T.Tree.story c.args.tree.now) (g.T.Tree.story c.take.new.tree) (g.T.Tree.story c.sync_both.new.tree) c.control.ensures (c.take.ensures.stops told).along (c.sync_both.ensures.stops told) absent

pub returns-in_err-take-clause-syncs : goal.returns-in_err-take-clause-syncs
returns-in_err-take-clause-syncs g c = λ told. syncs_more 0 2 _ _ (omega arith) (c.take.ensures.stops told).syncs

pub returns-in_err-sync_both-clause-syncs : goal.returns-in_err-sync_both-clause-syncs
returns-in_err-sync_both-clause-syncs g c = λ told. syncs_trans 0 2 _ _ _ (c.take.ensures.stops told).syncs (c.sync_both.ensures.syncs told)

pub returns-clause-syncs : goal.returns-clause-syncs
returns-clause-syncs g c = λ told. syncs_trans 0 2 _ _ _ (c.take.ensures.stops told).syncs (c.sync_both.ensures.syncs told)
