use Rattle.std.proofs.Common.{◌≤◌, take}
use Rattle.tree_fs.specs.Story.{disk_of}
use Rattle.plan_exec.specs.Counts.{Runs}
use Rattle.plan_exec.specs.TakingOff.{TakesOff, OffDone}
use Rattle.plan_exec.proofs.off.take_folders_off.Given as goal

abbrev pub invariant-loop-at : goal.invariant-loop-at
invariant-loop-at g l =
    let tree = g.T.Tree in
    record {
      stops : tree.tells → Runs l.at-index (TakesOff l.fn.plan.folders_off (disk_of (tree.story l.fn.tree))) (tree.story l.fn.tree) (tree.story l.tree);
      done : tree.tells → OffDone (take l.at-index l.fn.plan.folders_off) (disk_of (tree.story l.tree));
      faults : tree.faults l.fn.tree ≤ tree.faults l.tree;
    }
