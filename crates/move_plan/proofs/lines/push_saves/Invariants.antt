use Rattle.std.proofs.Common.{◌≡◌, ◌++◌, take}
use Rattle.std.specs.List.{flat_map}
use Rattle.std.specs.String.{string_bytes}
use Rattle.move_plan.specs.Lines.{save_line}
use Rattle.move_plan.proofs.lines.push_saves.Given as goal

abbrev pub invariant-loop-save : goal.invariant-loop-save
invariant-loop-save l = string_bytes l.lines ≡ string_bytes l.fn.lines ++ flat_map save_line (take l.save-index l.saves)
