use Rattle.std.proofs.Common.{◌≡◌, map, take}
use Rattle.tree_fs.specs.Spot.{spot_of, parent}
use Rattle.move_plan.specs.declared.plan.SetRow.{SetRow}
use Rattle.intent_journal.proofs.parents.set_parents.Given as goal

abbrev pub invariant-loop-set : goal.invariant-loop-set
invariant-loop-set l = map spot_of l.above.items ≡ map (λ (row : SetRow). parent (spot_of row.to)) (take l.set-index l.sets)
