use Rattle.std.proofs.Common.{length, map}
use Rattle.std.specs.Prelude.{◌↔◌}
use denote.Text.{Utf8}
use denote.Shadow.{shadow}
use Rattle.deploy_plan.specs.Search.{IsBelowOne}
use Rattle.deploy_plan.proofs.search.lies_below.Given as goal

-- what the path lies below the rest of it lies below
abbrev pub invariant-loop-above : goal.invariant-loop-above
invariant-loop-above g l =
    let paths = map g.T.Pathed.path l.items in
    shadow (Utf8 l.rest) × (IsBelowOne paths l.path ↔ IsBelowOne paths l.rest)

abbrev pub decreases-loop-above : goal.decreases-loop-above
decreases-loop-above g l = length l.rest
