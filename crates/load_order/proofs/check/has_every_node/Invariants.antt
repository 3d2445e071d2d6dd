use Rattle.std.proofs.Common.{◌<◌, ℕ, Contains}
use Rattle.load_order.proofs.check.has_every_node.Given as goal

abbrev pub invariant-loop-node : goal.invariant-loop-node
invariant-loop-node l = (k : ℕ) → k < l.node-counter → Contains l.list k
