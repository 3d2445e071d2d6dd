use Rattle.std.proofs.Common.{take}
use Rattle.conflict_report.specs.Relations.{GrowsBy, FollowsFrom}
use Rattle.conflict_report.proofs.reach.follow.Given as goal

abbrev pub invariant-loop-next : goal.invariant-loop-next
invariant-loop-next l = GrowsBy l.initial.reach l.reach (FollowsFrom l.initial.reach l.node (take l.next-index l.edges))
