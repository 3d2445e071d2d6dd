use Rattle.list_laws.proofs.Alls.{all_this}
use Rattle.tree_fs.specs.Spot.{spot_of}
use Rattle.manifest_json.specs.Sound.{IsRow}
use Rattle.plan_lists.proofs.Gathered.{gathered_more, gathered_all}
use Rattle.change_settle.specs.Tasks.{task_row, task_seen, task_restored}
use Rattle.change_settle.proofs.walk.restored_places.Goals as goal

pub restored_place-requires : goal.restored_place-requires
restored_place-requires c = all_this (λ t. IsRow (task_row t)) c.args.tasks.now c.loop-task.task-index c.task-item.result c.loop-task-test.true c.task-item.is c.requires

pub loop-task-preserved : goal.loop-task-preserved
loop-task-preserved c =
    gathered_more task_restored task_seen spot_of c.args.tasks.now c.loop-task.task-index c.task-item.result _ _ _ c.loop-task-test.true c.task-item.is c.loop-task.invariant c.in_ok-place.ensures c.in_ok-push_some.ensures

pub returns : goal.returns
returns c = gathered_all task_restored task_seen spot_of c.args.tasks.now c.loop-task.task-index _ c.loop-task-test.false c.loop-task.invariant
