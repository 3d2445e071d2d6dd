use Rattle.change_settle.specs.Above.{new_aside}
use Rattle.change_settle.proofs.Picked.{picked_next, picked_whole}
use Rattle.change_settle.proofs.made.new_asides.Goals as goal

pub loop-folder-preserved : goal.loop-folder-preserved
loop-folder-preserved c =
    picked_next (new_aside c.args.is_there c.args.aside.now) c.args.folders.now c.loop-folder.folder-index c.folder-item.result _ _ _ c.loop-folder-test.true c.folder-item.is c.loop-folder.invariant c.in_ok-place.ensures c.in_ok-push_some.ensures

pub returns : goal.returns
returns c = picked_whole (new_aside c.args.is_there c.args.aside.now) c.args.folders.now c.loop-folder.folder-index c.loop-folder.places.items c.loop-folder-test.false c.loop-folder.invariant
