use Rattle.std.proofs.Common.{◌≡◌}
use Rattle.std.specs.List.{Contains}
use Rattle.deploy_plan.specs.declared.parents.Seen.{Seen}
use Rattle.deploy_plan.proofs.parents.Parents.leave.Given as goal

abbrev pub invariant-loop-seen : goal.invariant-loop-seen
invariant-loop-seen l = record {
  missing : l.self.missing ≡ l.fn.self.missing;
  above : (seen : Seen) → Contains l.self.above.items seen → Contains l.fn.self.above.items seen;
}

abbrev pub decreases-loop-seen : goal.decreases-loop-seen
decreases-loop-seen l = goal.left-loop-seen l
