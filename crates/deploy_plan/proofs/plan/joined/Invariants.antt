use Rattle.std.proofs.Common.{◌≡◌, ◌++◌, take}
use Rattle.deploy_plan.proofs.plan.joined.Given as goal

abbrev pub invariant-loop-path : goal.invariant-loop-path
invariant-loop-path l = l.kept.items ≡ l.fn.kept.items ++ take l.path-index l.made
