use Rattle.std.proofs.Common.{◌≡◌, ◌↔◌, ℕ, take}
use Rattle.conflict_report.specs.Relations.{Holds}
use Rattle.conflict_report.specs.Shares.{SharesOneOf}
use Rattle.conflict_report.proofs.pairs.shared_of.Given as goal

abbrev pub invariant-loop-entry : goal.invariant-loop-entry
invariant-loop-entry l = record {
  count : l.shared.count ≡ l.count;
  shares : (a b : ℕ) → Holds l.shared a b ↔ SharesOneOf (take l.entry-index l.all) a b;
}
