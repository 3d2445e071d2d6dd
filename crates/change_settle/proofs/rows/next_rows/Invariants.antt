use Rattle.std.proofs.Common.{◌≡◌, ◌≤◌, map, filter_map, take}
use Rattle.tree_fs.specs.Story.{disk_of}
use Rattle.change_settle.specs.Rows.{AreLeft}
use Rattle.change_settle.specs.Steps.{step_task}
use Rattle.change_settle.specs.Tasks.{step_row, task_next}
use Rattle.change_settle.proofs.rows.next_rows.Given as goal

abbrev pub invariant-loop-step : goal.invariant-loop-step
invariant-loop-step g l =
    let tree = g.T.Tree in
    record {
      same : tree.tells → tree.story l.tree ≡ tree.story l.fn.tree;
      later : tree.faults l.fn.tree ≤ tree.faults l.tree;
      left : AreLeft (map step_row (take l.step-index l.steps)) l.rows.items;
      so_far : tree.tells → l.rows.items ≡ filter_map (task_next (disk_of (tree.story l.fn.tree))) (map step_task (take l.step-index l.steps));
    }
