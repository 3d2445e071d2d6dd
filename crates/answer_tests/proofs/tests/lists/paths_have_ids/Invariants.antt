use Rattle.std.proofs.Common.{take}
use Rattle.std.specs.List.{AllByRecursion}
use Rattle.answer_lines.specs.Lists.{PathHasIds}
use Rattle.answer_tests.proofs.tests.lists.paths_have_ids.Given as goal

abbrev pub invariant-loop-report : goal.invariant-loop-report
invariant-loop-report l = AllByRecursion (PathHasIds l.ids) (take l.report-index l.paths)
