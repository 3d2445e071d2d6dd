use Rattle.conflict_report.specs.Shares.{IsOpen}
use Rattle.conflict_report.proofs.Pairing.{HasRows}
use Rattle.conflict_report.proofs.pairs.pairs_of.Given as goal

abbrev pub invariant-loop-first : goal.invariant-loop-first
invariant-loop-first l = HasRows l.first (IsOpen l.shared l.reach) l.pairs.items
