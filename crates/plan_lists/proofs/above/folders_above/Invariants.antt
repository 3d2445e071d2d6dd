use Rattle.std.proofs.Common.{map, take}
use Rattle.plan_lists.proofs.Added.{AreAbove}
use Rattle.plan_lists.proofs.above.folders_above.Given as goal

abbrev pub invariant-loop-item : goal.invariant-loop-item
invariant-loop-item g l = AreAbove l.found.items (map g.T.Pathed.path (take l.item-index l.items))
