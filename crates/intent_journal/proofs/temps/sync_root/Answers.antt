use Rattle.std.proofs.Common.{arith}
use Rattle.intent_journal.proofs.Counting.{syncs_adds}
use Rattle.tree_fs.specs.Story.{disk_of}
use Rattle.tree_fs.specs.Frames.{EntriesSettled}
use Rattle.tree_fs.specs.declared.op.Op.TheVariants.{SyncFolder}
use Rattle.tree_fs.specs.Spot.{root_spot}
use Rattle.tree_fs.proofs.Frames.{along_sync, synced-settled}
use Rattle.tree_fs.proofs.Stories.{AddsOne-on_ok}
use Rattle.intent_journal.proofs.temps.sync_root.Goals as goal

pub sync_folder-requires : goal.sync_folder-requires
sync_folder-requires g c = λ told. (g.met.T.Tree.valid _ told).roots c.args.root

pub returns-clause-stops : goal.returns-clause-stops
returns-clause-stops g c = λ told. along_sync _ (g.T.Tree.story c.args.tree.now) _ _ (g.met.T.Tree.valid _ told) (c.sync_folder.ensures.adds told)

pub returns-clause-done : goal.returns-clause-done
returns-clause-done g c = λ told.
    AddsOne-on_ok (λ d. EntriesSettled d (root_spot c.args.root)) (SyncFolder _) (g.T.Tree.story c.args.tree.now) _ _ (c.sync_folder.ensures.adds told) (synced-settled (disk_of (g.T.Tree.story c.args.tree.now)) (root_spot c.args.root))

pub returns-clause-syncs : goal.returns-clause-syncs
returns-clause-syncs g c = λ told. syncs_adds 1 (SyncFolder _) _ _ _ (λ done. omega arith) (c.sync_folder.ensures.adds told)
