use Rattle.std.proofs.Common.{take}
use Rattle.conflict_report.specs.Relations.{GrowsBy}
use Rattle.conflict_report.specs.Shares.{PairsAmong}
use Rattle.conflict_report.proofs.pairs.mark_all.Given as goal

abbrev pub invariant-loop-node : goal.invariant-loop-node
invariant-loop-node l = GrowsBy l.initial.shared l.shared (PairsAmong (take l.node-index l.nodes) l.nodes)
