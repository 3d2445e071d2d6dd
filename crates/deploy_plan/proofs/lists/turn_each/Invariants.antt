use Rattle.std.proofs.Common.{◌≡◌, ◌++◌, map, take, drop}
use Rattle.deploy_plan.specs.Order.{turned}
use Rattle.deploy_plan.proofs.lists.turn_each.Given as goal

abbrev pub invariant-loop-save : goal.invariant-loop-save
invariant-loop-save l = l.saves ≡ map turned (take l.save-index l.fn.saves) ++ drop l.save-index l.fn.saves
