use Rattle.std.proofs.Common.{arith}
use Rattle.tree_fs.specs.declared.op.Op.TheVariants.{SyncFolder}
use Rattle.intent_journal.proofs.Counting.{syncs_more, syncs_trans, syncs_adds}
use Rattle.plan_exec.proofs.Manifests.{sync_at, sync_two, first_settled, second_settled}
use Rattle.plan_exec.proofs.manifest.sync_both.Goals as goal

pub returns-in_err-sync_folder-clause-stops : goal.returns-in_err-sync_folder-clause-stops
returns-in_err-sync_folder-clause-stops g c = λ told. sync_at _ (g.T.Tree.story c.args.tree.now) _ _ (g.met.T.Tree.valid _ told) (c.sync_folder.ensures.adds told)

pub returns-clause-stops : goal.returns-clause-stops
returns-clause-stops g c = λ told. sync_two _ _ (g.T.Tree.story c.args.tree.now) (g.T.Tree.story c.sync_folder.new.self) _ _ _ (g.met.T.Tree.valid _ told) (g.met.T.Tree.valid _ told) (c.in_ok-sync_folder.ensures.adds told) (c.sync_folder-2.ensures.adds told)

pub returns-clause-game : goal.returns-clause-game
returns-clause-game g c = λ told. first_settled _ _ (g.T.Tree.story c.args.tree.now) (g.T.Tree.story c.sync_folder.new.self) _ _ _ (g.met.T.Tree.valid _ told) (c.in_ok-sync_folder.ensures.adds told) (c.sync_folder-2.ensures.adds told)

pub returns-clause-keep : goal.returns-clause-keep
returns-clause-keep g c = λ told. second_settled _ (g.T.Tree.story c.sync_folder.new.self) _ _ (c.sync_folder-2.ensures.adds told)

pub returns-in_err-sync_folder-clause-syncs : goal.returns-in_err-sync_folder-clause-syncs
returns-in_err-sync_folder-clause-syncs g c = λ told. syncs_more 1 2 _ _ (omega arith) (syncs_adds 1 (SyncFolder _) (g.T.Tree.story c.args.tree.now) _ _ (λ done. omega arith) (c.sync_folder.ensures.adds told))

pub returns-clause-syncs : goal.returns-clause-syncs
returns-clause-syncs g c = λ told. syncs_trans 1 1 _ (g.T.Tree.story c.sync_folder.new.self) _ (syncs_adds 1 (SyncFolder _) (g.T.Tree.story c.args.tree.now) _ _ (λ done. omega arith) (c.sync_folder.ensures.adds told)) (syncs_adds 1 (SyncFolder _) (g.T.Tree.story c.sync_folder.new.self) _ _ (λ done. omega arith) (c.sync_folder-2.ensures.adds told))
