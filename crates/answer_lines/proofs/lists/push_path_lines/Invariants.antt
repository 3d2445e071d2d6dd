use Rattle.std.proofs.Common.{◌≡◌, ◌++◌, take}
use Rattle.std.specs.List.{flat_map}
use Rattle.std.specs.String.{string_bytes}
use Rattle.answer_lines.specs.Lists.{path_line}
use Rattle.answer_lines.proofs.lists.push_path_lines.Given as goal

abbrev pub invariant-loop-report : goal.invariant-loop-report
invariant-loop-report l = string_bytes l.lines ≡ string_bytes l.fn.lines ++ flat_map (path_line l.ids) (take l.report-index l.paths)
