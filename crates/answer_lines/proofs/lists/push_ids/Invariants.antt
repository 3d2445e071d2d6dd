use Rattle.std.proofs.Common.{◌≡◌, ◌++◌, map, take}
use Rattle.std.specs.List.{flat_map}
use Rattle.std.specs.String.{string_bytes}
use Rattle.answer_lines.specs.Lines.{tabbed}
use Rattle.answer_lines.specs.Lists.{id_of}
use Rattle.answer_lines.proofs.lists.push_ids.Given as goal

abbrev pub invariant-loop-node : goal.invariant-loop-node
invariant-loop-node l = string_bytes l.lines ≡ string_bytes l.fn.lines ++ flat_map tabbed (map (id_of l.ids) (take l.node-index l.nodes))
