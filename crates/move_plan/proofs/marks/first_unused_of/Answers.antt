use Rattle.std.proofs.Common.{not, ◌||◌, sym}
use Rattle.tree_fs.specs.declared.place.Place.{Place}
use Rattle.move_plan.specs.Tests.{has_key, is_source}
use Rattle.move_plan.proofs.Searching.{position-nowhere}
use Rattle.move_plan.proofs.marks.first_unused_of.Goals as goal

pub returns-then-are_own : goal.returns-then-are_own
returns-then-are_own c =
    sym (position-nowhere (λ p. not (is_source c.args.sets.now p || has_key (λ (s : Place × Place). s.1) c.args.saves.now p)) c.args.clears.now (c.are_own.ensures c.if-are_own.true))

pub returns : goal.returns
returns c = c.first_unmarked.ensures (is_source c.args.sets.now) c.source_marks-marks.ensures
