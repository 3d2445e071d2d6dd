use Rattle.std.proofs.Common.{◌≡◌, map, filter_map, take}
use Rattle.tree_fs.specs.Spot.{spot_of}
use Rattle.change_settle.specs.Tasks.{task_seen, task_restored}
use Rattle.change_settle.proofs.walk.restored_places.Given as goal

abbrev pub invariant-loop-task : goal.invariant-loop-task
invariant-loop-task l = map spot_of l.places.items ≡ filter_map task_restored (map task_seen (take l.task-index l.tasks))
