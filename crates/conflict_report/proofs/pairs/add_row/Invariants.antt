use Rattle.conflict_report.specs.Shares.{IsOpen}
use Rattle.conflict_report.proofs.Pairing.{HasRow}
use Rattle.conflict_report.proofs.pairs.add_row.Given as goal

abbrev pub invariant-loop-second : goal.invariant-loop-second
invariant-loop-second l = HasRow l.initial.pairs.items l.first l.second (IsOpen l.shared l.reach) l.pairs.items
