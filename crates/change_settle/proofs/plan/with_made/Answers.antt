use Rattle.change_settle.specs.Above.{game_path}
use Rattle.change_settle.proofs.Picked.{picked_behind}
use Rattle.change_settle.proofs.plan.with_made.Goals as goal

pub loop-folder-preserved : goal.loop-folder-preserved
loop-folder-preserved c =
    picked_behind game_path c.args.made.now c.loop-folder.folder-index c.folder-item.result c.args.kept.items _ _ _ c.loop-folder-test.true c.folder-item.is c.loop-folder.invariant c.in_ok-path.ensures c.in_ok-push_some.ensures
