use Rattle.std.proofs.Common.{◌≡◌, true, take}
use Rattle.std.specs.List.{AllByRecursion}
use Rattle.intent_json.specs.Reads.{has_own_source}
use Rattle.intent_json.proofs.read.have_own_sources.Given as goal

abbrev pub invariant-loop-row : goal.invariant-loop-row
invariant-loop-row l = AllByRecursion (λ r. has_own_source r ≡ true) (take l.row-index l.rows)
