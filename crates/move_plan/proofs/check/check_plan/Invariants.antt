use Rattle.std.proofs.Common.{◌≤◌}
use Rattle.move_plan.proofs.Checked.{Passed}
use Rattle.move_plan.proofs.check.check_plan.Given as goal

-- the rules before this one are kept
abbrev pub invariant-loop-rule : goal.invariant-loop-rule
invariant-loop-rule l = (1 ≤ l.rule) × Passed l.rule l.plan
