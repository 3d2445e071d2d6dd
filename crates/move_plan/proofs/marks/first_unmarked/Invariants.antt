use Rattle.std.proofs.Common.{◌≡◌, ℕ, ◌<◌, get_or, true, false, ◌||◌}
use Rattle.tree_fs.specs.declared.place.Place.{Place}
use Rattle.move_plan.specs.Tests.{has_key}
use Rattle.move_plan.proofs.marks.first_unmarked.Given as goal

-- each clear so far is marked, or a save's destination
abbrev pub invariant-loop-at : goal.invariant-loop-at
invariant-loop-at l =
    (k : ℕ) → k < l.at → (d : Place)
    → (get_or l.marks k false || has_key (λ (s : Place × Place). s.1) l.saves (get_or l.clears k d)) ≡ true
