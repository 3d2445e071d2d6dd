use Rattle.conflict_report.specs.Relations.{GrowsBy}
use Rattle.conflict_report.proofs.Growing.{Joined}
use Rattle.conflict_report.proofs.relation.Relation.join.Given as goal

abbrev pub invariant-loop-node : goal.invariant-loop-node
invariant-loop-node l = GrowsBy l.initial.self l.self (Joined l.initial.self l.first l.second l.node)
