use Rattle.std.proofs.Common.{◌<◌, ℕ, take, get_or}
use Rattle.load_order.specs.Orders.{MayComeNext}
use Rattle.load_order.proofs.check.check_order.Given as goal

abbrev pub invariant-loop-i : goal.invariant-loop-i
invariant-loop-i l = (k : ℕ) → k < l.i → MayComeNext l.graph (take k l.list) (get_or l.list k 0)
