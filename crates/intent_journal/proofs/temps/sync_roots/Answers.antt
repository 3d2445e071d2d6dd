use Rattle.std.proofs.Common.{arith}
use Rattle.intent_journal.proofs.Counting.{syncs_more, syncs_trans}
use Rattle.tree_fs.specs.Story.{disk_of}
use Rattle.tree_fs.specs.Frames.{Syncs}
use Rattle.tree_fs.proofs.Frames.{along_syncs}
use Rattle.tree_fs.proofs.Moments.{along_last}
use Rattle.intent_journal.proofs.Settling.{first_settled}
use Rattle.intent_journal.proofs.temps.sync_roots.Goals as goal

pub returns-clause-stops : goal.returns-clause-stops
returns-clause-stops g c = λ told. along_syncs _ _ _ (c.sync_root.ensures.stops told) (c.sync_root-2.ensures.stops told)

pub returns-clause-first : goal.returns-clause-first
returns-clause-first g c = λ told.
    let s = g.T.Tree.story c.sync_root.new.tree in
    first_settled _ (disk_of s) _ _ (along_last (Syncs (disk_of s)) s _ (c.sync_root-2.ensures.stops told)) (c.in_ok-sync_root.ensures.done told)

pub returns-in_err-sync_root-clause-syncs : goal.returns-in_err-sync_root-clause-syncs
returns-in_err-sync_root-clause-syncs g c = λ told. syncs_more 1 2 _ _ (omega arith) (c.sync_root.ensures.syncs told)

pub returns-clause-syncs : goal.returns-clause-syncs
returns-clause-syncs g c = λ told. syncs_trans 1 1 _ _ _ (c.sync_root.ensures.syncs told) (c.sync_root-2.ensures.syncs told)
