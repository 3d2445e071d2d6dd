use Rattle.std.proofs.Common.{◌≡◌, ℕ, ◌<◌, length, take, get_or, false}
use Rattle.tree_fs.specs.declared.place.Place.{Place}
use Rattle.move_plan.specs.Tests.{is_source}
use Rattle.move_plan.proofs.marks.source_marks.Given as goal

abbrev pub invariant-loop-row : goal.invariant-loop-row
invariant-loop-row l =
    (k : ℕ) (d : Place) → k < length l.clears
    → get_or l.marks k false ≡ is_source (take l.row-index l.sets) (get_or l.clears k d)
