use Rattle.std.proofs.Common.{◌≡◌, take}
use Rattle.std.specs.List.{flat_map}
use Rattle.std.specs.String.{string_bytes}
use Rattle.answer_lines.specs.Lists.{winner_line}
use Rattle.answer_lines.proofs.lists.winner_lines.Given as goal

abbrev pub invariant-loop-row : goal.invariant-loop-row
invariant-loop-row l = string_bytes l.lines ≡ flat_map winner_line (take l.row-index l.wins)
