use Rattle.std.proofs.Common.{◌-◌, length, drop}
use Rattle.conflict_report.proofs.Reaching.{Tells}
use Rattle.conflict_report.proofs.reach.reach_of.Given as goal

abbrev pub invariant-loop-done : goal.invariant-loop-done
invariant-loop-done l = Tells l.graph l.reach (drop (length l.order - l.done) l.order)
