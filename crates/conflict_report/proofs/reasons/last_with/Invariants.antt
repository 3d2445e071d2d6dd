use Rattle.std.proofs.Common.{◌≢◌, ◌-◌, length, drop}
use Rattle.std.specs.List.{AllByRecursion}
use Rattle.winner_table.specs.Winners.{id_at}
use Rattle.conflict_report.proofs.reasons.last_with.Given as goal

abbrev pub invariant-loop-i : goal.invariant-loop-i
invariant-loop-i l = AllByRecursion (λ node. id_at l.scans node ≢ l.id) (drop (length l.nodes - l.i) l.nodes)
