use Rattle.std.proofs.Common.{◌≡◌, ◌++◌, take}
use Rattle.std.specs.List.{flat_map}
use Rattle.std.specs.String.{string_bytes}
use Rattle.move_plan.specs.Lines.{set_line}
use Rattle.move_plan.proofs.lines.push_sets.Given as goal

abbrev pub invariant-loop-row : goal.invariant-loop-row
invariant-loop-row l = string_bytes l.lines ≡ string_bytes l.fn.lines ++ flat_map set_line (take l.row-index l.sets)
