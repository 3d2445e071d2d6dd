use Rattle.change_settle.specs.Lists.{saved_by}
use Rattle.change_settle.proofs.Picked.{picked_next, picked_whole}
use Rattle.change_settle.proofs.lists.saves_of.Goals as goal

pub loop-set-preserved : goal.loop-set-preserved
loop-set-preserved c =
    picked_next saved_by c.args.sets.now c.loop-set.set-index c.set-item.result _ _ _ c.loop-set-test.true c.set-item.is c.loop-set.invariant c.in_ok-save.ensures c.in_ok-push_some.ensures

pub returns : goal.returns
returns c = picked_whole saved_by c.args.sets.now c.loop-set.set-index c.loop-set.saves.items c.loop-set-test.false c.loop-set.invariant
