use Rattle.std.proofs.Common.{◌≤◌, ◌+◌, arith}
use Rattle.list_laws.proofs.Containing.{in_all, contains_none}
use Rattle.tree_fs.specs.Story.{disk_of}
use Rattle.tree_fs.specs.Frames.{Syncs}
use Rattle.tree_fs.proofs.Frames.{syncs_same}
use Rattle.plan_exec.proofs.Syncing.{synced_next, syncs_next}
use Rattle.plan_exec.proofs.Runs.{runs_more, runs_here}
use Rattle.plan_exec.proofs.syncs.sync_all.Goals as goal

pub loop-folder-init : goal.loop-folder-init
loop-folder-init g c = record {
  stops = λ told. runs_here _ _ (syncs_same _ (g.met.T.Tree.valid _ told));
  done = λ told p never. absurd (contains_none p never);
  faults = omega arith;
}

pub returns-in_err-sync_one-clause-stops : goal.returns-in_err-sync_one-clause-stops
returns-in_err-sync_one-clause-stops g c = λ told.
    let lt = c.loop-folder-test.true in
    runs_more (c.loop-folder.folder-index + 1) _ (Syncs (disk_of (g.T.Tree.story c.args.tree.now))) _ _ (omega arith) (syncs_next _ _ _ _ (c.loop-folder.invariant.stops told) (c.sync_one.ensures.stops told))

pub loop-folder-preserved : goal.loop-folder-preserved
loop-folder-preserved g c =
    let before : g.T.Tree.faults c.args.tree.now ≤ g.T.Tree.faults c.loop-folder.tree = c.loop-folder.invariant.faults in
    let after : g.T.Tree.faults c.loop-folder.tree ≤ g.T.Tree.faults c.sync_one.new.tree = c.sync_one.ensures.cause.later in
    record {
      stops = λ told. syncs_next _ _ _ _ (c.loop-folder.invariant.stops told) (c.sync_one.ensures.stops told);
      done = λ told. synced_next c.args.folders.now c.loop-folder.folder-index c.folder-item.result (g.T.Tree.story c.args.tree.now) (g.T.Tree.story c.loop-folder.tree) (g.T.Tree.story c.sync_one.new.tree) c.loop-folder-test.true c.folder-item.is
          (c.loop-folder.invariant.stops told).along (c.sync_one.ensures.stops told).along (c.loop-folder.invariant.done told) (c.in_ok-sync_one.ensures.done told);
      faults = omega arith;
    }

pub returns-clause-stops : goal.returns-clause-stops
returns-clause-stops g c = λ told.
    let le = c.loop-folder.auto.folder-index-end in
    runs_more c.loop-folder.folder-index _ (Syncs (disk_of (g.T.Tree.story c.args.tree.now))) _ _ (omega arith) (c.loop-folder.invariant.stops told)

pub returns-clause-done : goal.returns-clause-done
returns-clause-done g c = λ told p listed. c.loop-folder.invariant.done told p (in_all c.args.folders.now c.loop-folder.folder-index p c.loop-folder-test.false listed)
