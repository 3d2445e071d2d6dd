use Rattle.std.proofs.Common.{◌≡◌, ◌≤◌}
use Rattle.std.specs.List.{AllByRecursion}
use Rattle.tree_fs.specs.Story.{disk_of}
use Rattle.rel_paths.specs.Names.{IsFreePath}
use Rattle.stage_scan.specs.Stack.{HasUserFolder, IsWalkAt}
use Rattle.stage_scan.proofs.walk.Walk.walk.Given as goal

abbrev pub invariant-loop-count : goal.invariant-loop-count
invariant-loop-count g l =
    let tree = g.T.Tree in
    record {
      within : l.count ≤ l.most;
      users : AllByRecursion HasUserFolder l.self.stack.items;
      files : AllByRecursion IsFreePath l.self.files.items;
      same : tree.tells → tree.story l.tree ≡ tree.story l.fn.tree;
      faults : tree.faults l.fn.tree ≤ tree.faults l.tree;
      told : tree.tells → IsWalkAt (disk_of (tree.story l.fn.tree)) l.fn.id l.self.stack.items l.count l.self.files.items;
    }
