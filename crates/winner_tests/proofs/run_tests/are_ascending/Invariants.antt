use Rattle.std.proofs.Common.{ℕ, ◌<◌, get_or, Vec, Global, List}
use Rattle.winner_table.specs.Merged.{AreAscending}
use Rattle.winner_tests.proofs.run_tests.are_ascending.Given as goal

abbrev pub invariant-loop-run : goal.invariant-loop-run
invariant-loop-run l = (k : ℕ) (d : Vec (List ℕ) Global) → k < l.run-index → AreAscending (λ path. path) (get_or l.runs k d).items
