use Rattle.std.proofs.Common.{◌≡◌, ℕ, ◌<◌, get_or, false, not, ◌||◌}
use Rattle.tree_fs.specs.declared.place.Place.{Place}
use Rattle.move_plan.specs.Tests.{has_key, is_source}
use Rattle.move_plan.proofs.named.are_own.Given as goal

-- each clear so far is used
abbrev pub invariant-loop-place : goal.invariant-loop-place
invariant-loop-place l =
    (k : ℕ) → k < l.place-index → (d : Place)
    → not (is_source l.sets (get_or l.clears k d) || has_key (λ (s : Place × Place). s.1) l.saves (get_or l.clears k d)) ≡ false
