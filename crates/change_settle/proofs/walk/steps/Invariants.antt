use Rattle.std.proofs.Common.{◌≡◌, ◌≤◌, map, take}
use Rattle.std.specs.List.{AllByRecursion}
use Rattle.tree_fs.specs.Story.{disk_of}
use Rattle.change_settle.specs.Steps.{IsOpen, step_task}
use Rattle.change_settle.specs.Tasks.{step_seen, task_seen, told}
use Rattle.change_settle.proofs.walk.steps.Given as goal

abbrev pub invariant-loop-task : goal.invariant-loop-task
invariant-loop-task g l =
    let tree = g.T.Tree in
    let a = disk_of (tree.story l.fn.tree) in
    let done = map task_seen (take l.task-index l.tasks) in
    record {
      same : tree.tells → tree.story l.tree ≡ tree.story l.fn.tree;
      later : tree.faults l.fn.tree ≤ tree.faults l.tree;
      tasks : map step_task l.steps.items ≡ done;
      open_so_far : tree.tells → AllByRecursion (IsOpen a) done;
      so_far : tree.tells → map step_seen l.steps.items ≡ map (told a) done;
    }
