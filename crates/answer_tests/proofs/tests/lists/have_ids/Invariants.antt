use Rattle.std.proofs.Common.{take}
use Rattle.std.specs.List.{AllByRecursion}
use Rattle.answer_lines.specs.Lists.{HasId}
use Rattle.answer_tests.proofs.tests.lists.have_ids.Given as goal

abbrev pub invariant-loop-node : goal.invariant-loop-node
invariant-loop-node l = AllByRecursion (HasId l.ids) (take l.node-index l.nodes)
