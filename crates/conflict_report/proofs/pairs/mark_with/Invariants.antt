use Rattle.std.proofs.Common.{take}
use Rattle.conflict_report.specs.Relations.{GrowsBy}
use Rattle.conflict_report.specs.Shares.{PairsWith}
use Rattle.conflict_report.proofs.pairs.mark_with.Given as goal

abbrev pub invariant-loop-other : goal.invariant-loop-other
invariant-loop-other l = GrowsBy l.initial.shared l.shared (PairsWith (take l.other-index l.nodes) l.node)
