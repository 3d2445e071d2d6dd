use Rattle.std.proofs.Common.{◌≡◌, ◌-◌, ◌≤◌, ℕ, ◌<◌, length, get_or, false, not, ◌||◌}
use Rattle.tree_fs.specs.declared.place.Place.{Place}
use Rattle.move_plan.specs.Tests.{has_key, is_source}
use Rattle.move_plan.proofs.marks.first_unused.Given as goal

-- each clear so far is used
abbrev pub invariant-loop-start : goal.invariant-loop-start
invariant-loop-start l =
    (l.start ≤ length l.clears)
    × ((k : ℕ) (d : Place) → k < l.start
    → not (is_source l.sets (get_or l.clears k d) || has_key (λ (s : Place × Place). s.1) l.saves (get_or l.clears k d)) ≡ false)

abbrev pub decreases-loop-start : goal.decreases-loop-start
decreases-loop-start l = length l.clears - l.start
