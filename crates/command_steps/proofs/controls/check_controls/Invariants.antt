use Rattle.std.proofs.Common.{◌≡◌, ◌≤◌, take}
use Rattle.std.specs.List.{AllByRecursion}
use Rattle.tree_fs.specs.Story.{disk_of}
use Rattle.command_steps.specs.Steps.{IsFine}
use Rattle.command_steps.proofs.controls.check_controls.Given as goal

abbrev pub invariant-loop-which : goal.invariant-loop-which
invariant-loop-which g l =
    let tree = g.T.Tree in
    record {
      same : tree.tells → tree.story l.tree ≡ tree.story l.fn.tree;
      faults : tree.faults l.fn.tree ≤ tree.faults l.tree;
      fine : tree.tells → AllByRecursion (IsFine (disk_of (tree.story l.fn.tree))) (take l.which-index l.which-items);
    }
