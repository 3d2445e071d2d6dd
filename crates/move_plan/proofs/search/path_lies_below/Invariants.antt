use Rattle.std.proofs.Common.{◌≡◌, length}
use denote.Text.{Utf8}
use denote.Shadow.{shadow}
use Rattle.std.specs.List.{list_any}
use Rattle.move_plan.specs.Tests.{is_above}
use Rattle.move_plan.proofs.search.path_lies_below.Given as goal

-- what lies above the path lies above the rest of it
abbrev pub invariant-loop-above : goal.invariant-loop-above
invariant-loop-above g l =
    shadow (Utf8 l.rest)
    × (list_any (λ x. is_above l.root l.path (g.T.Keyed.key x)) l.items ≡ list_any (λ x. is_above l.root l.rest (g.T.Keyed.key x)) l.items)

abbrev pub decreases-loop-above : goal.decreases-loop-above
decreases-loop-above g l = length l.rest
