use Rattle.std.proofs.Common.{◌≡◌, position, take}
use Rattle.tree_fs.specs.declared.place.Place.{Place}
use Rattle.move_plan.specs.Tests.{is_source}
use Rattle.move_plan.proofs.marks.first_source.Given as goal

abbrev pub invariant-loop-row : goal.invariant-loop-row
invariant-loop-row l = l.first ≡ position (λ (s : Place × Place). is_source (take l.row-index l.sets) s.1) l.saves
