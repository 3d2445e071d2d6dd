use Rattle.std.proofs.Common.{◌≡◌, ◌++◌, take}
use Rattle.std.specs.List.{flat_map}
use Rattle.std.specs.String.{string_bytes}
use Rattle.move_plan.specs.Lines.{place_line}
use Rattle.move_plan.proofs.lines.push_places.Given as goal

abbrev pub invariant-loop-place : goal.invariant-loop-place
invariant-loop-place l = string_bytes l.lines ≡ string_bytes l.fn.lines ++ flat_map (place_line l.word) (take l.place-index l.places)
