use Rattle.std.proofs.Common.{◌≡◌, ◌++◌, take}
use Rattle.std.specs.List.{flat_map}
use Rattle.std.specs.String.{string_bytes}
use Rattle.answer_lines.specs.Lists.{pair_line}
use Rattle.answer_lines.proofs.lists.push_pair_lines.Given as goal

abbrev pub invariant-loop-pair : goal.invariant-loop-pair
invariant-loop-pair l = string_bytes l.lines ≡ string_bytes l.fn.lines ++ flat_map (pair_line l.ids) (take l.pair-index l.pairs)
