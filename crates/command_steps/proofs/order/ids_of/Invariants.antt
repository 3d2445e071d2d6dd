use Rattle.std.proofs.Common.{◌≡◌, map, take}
use Rattle.answer_lines.specs.Lists.{id_of}
use Rattle.command_steps.proofs.order.ids_of.Given as goal

abbrev pub invariant-loop-node : goal.invariant-loop-node
invariant-loop-node l = l.found.items ≡ map (id_of l.ids) (take l.node-index l.nodes)
