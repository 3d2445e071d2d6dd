use Rattle.std.proofs.Common.{◌≡◌, take}
use Rattle.std.specs.List.{flat_map}
use Rattle.std.specs.String.{string_bytes}
use Rattle.answer_lines.specs.Lists.{change_line}
use Rattle.answer_lines.proofs.lists.change_lines.Given as goal

abbrev pub invariant-loop-change : goal.invariant-loop-change
invariant-loop-change l = string_bytes l.lines ≡ flat_map change_line (take l.change-index l.changes)
