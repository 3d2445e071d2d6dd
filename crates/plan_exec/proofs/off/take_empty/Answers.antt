use Rattle.plan_exec.proofs.TakingOff.{sync_stops, can_remove, remove_stops, remove_done}
use Rattle.plan_exec.proofs.off.take_empty.Goals as goal

pub returns-in_err-sync_folder-clause-stops : goal.returns-in_err-sync_folder-clause-stops
returns-in_err-sync_folder-clause-stops g c = λ told. sync_stops c.args.at.now (g.T.Tree.story c.args.tree.now) _ _ (g.met.T.Tree.valid _ told) (c.sync_folder.ensures.adds told)

pub remove_folder-requires : goal.remove_folder-requires
remove_folder-requires g c = λ told. can_remove c.args.at.now (g.T.Tree.story c.args.tree.now) (g.T.Tree.story c.sync_folder.new.self) _ c.requires.below_root (c.requires.folder told) (c.requires.empty told) (c.in_ok-sync_folder.ensures.adds told)

pub returns-clause-stops : goal.returns-clause-stops
returns-clause-stops g c = λ told.
    remove_stops c.args.at.now (g.T.Tree.story c.args.tree.now) (g.T.Tree.story c.sync_folder.new.self) _ _
    (sync_stops c.args.at.now (g.T.Tree.story c.args.tree.now) _ _ (g.met.T.Tree.valid _ told) (c.sync_folder.ensures.adds told)) (c.requires.empty told)
    (can_remove c.args.at.now (g.T.Tree.story c.args.tree.now) (g.T.Tree.story c.sync_folder.new.self) _ c.requires.below_root (c.requires.folder told) (c.requires.empty told) (c.in_ok-sync_folder.ensures.adds told))
    (c.remove_folder.ensures.adds told)

pub returns-clause-done : goal.returns-clause-done
returns-clause-done g c = λ told. remove_done c.args.at.now _ _ _ (c.remove_folder.ensures.adds told)
