use Rattle.std.proofs.Common.{take}
use Rattle.std.specs.List.{AllByRecursion}
use Rattle.answer_lines.specs.Lists.{PairHasIds}
use Rattle.answer_tests.proofs.tests.lists.pairs_have_ids.Given as goal

abbrev pub invariant-loop-pair : goal.invariant-loop-pair
invariant-loop-pair l = AllByRecursion (PairHasIds l.ids) (take l.pair-index l.pairs)
