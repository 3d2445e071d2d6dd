use Rattle.std.proofs.Common.{◌≤◌, take}
use Rattle.tree_fs.specs.Spot.{Spot}
use Rattle.tree_fs.specs.Story.{disk_of}
use Rattle.tree_fs.specs.Calls.{IsFolder}
use Rattle.move_plan.specs.Places.{Has}
use Rattle.plan_exec.specs.Counts.{Runs}
use Rattle.plan_exec.specs.Making.{Makes}
use Rattle.plan_exec.proofs.folders.make_all.Given as goal

abbrev pub invariant-loop-i : goal.invariant-loop-i
invariant-loop-i g l =
    let tree = g.T.Tree in
    record {
      stops : tree.tells → Runs 0 (Makes (Has l.fn.folders) (disk_of (tree.story l.fn.tree))) (tree.story l.fn.tree) (tree.story l.tree);
      done : tree.tells → (x : Spot) → Has (take l.i l.fn.folders) x → IsFolder (disk_of (tree.story l.tree)) x;
      faults : tree.faults l.fn.tree ≤ tree.faults l.tree;
    }
