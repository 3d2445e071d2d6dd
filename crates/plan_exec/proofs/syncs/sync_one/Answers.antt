use Rattle.tree_fs.specs.Spot.{spot_of}
use Rattle.tree_fs.specs.Story.{disk_of}
use Rattle.tree_fs.specs.Calls.{IsFolder}
use Rattle.plan_exec.proofs.Syncing.{no_sync, sync_stops, sync_done}
use Rattle.plan_exec.proofs.syncs.sync_one.Goals as goal

pub returns-in_err-kind-clause-stops : goal.returns-in_err-kind-clause-stops
returns-in_err-kind-clause-stops g c = λ told. no_sync _ _ (g.met.T.Tree.valid _ told) (c.in_err-kind.ensures.same told)

pub returns-then-eq-clause-stops : goal.returns-then-eq-clause-stops
returns-then-eq-clause-stops g c = λ told. sync_stops c.args.folder.now _ _ _ _ (g.met.T.Tree.valid _ told) (c.in_ok-kind.ensures.same told) (c.sync_folder.ensures.adds told)

pub returns-then-eq-clause-done : goal.returns-then-eq-clause-done
returns-then-eq-clause-done g c = λ told. sync_done c.args.folder.now _ _ _ (IsFolder (disk_of (g.T.Tree.story c.args.tree.now)) (spot_of c.args.folder.now)) (c.sync_folder.ensures.adds told)

pub returns-clause-stops : goal.returns-clause-stops
returns-clause-stops g c = λ told. no_sync _ _ (g.met.T.Tree.valid _ told) (c.in_ok-kind.ensures.same told)
