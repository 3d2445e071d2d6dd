use Rattle.std.proofs.Common.{ℕ, List, take}
use Rattle.std.specs.Ordering.{nat_cmp}
use Rattle.std.specs.Cmp.Lexicographic.{slice_cmp}
use Rattle.std.specs.BTreeMap.{get}
use Rattle.winner_table.specs.Overrides.{IsIndexAt}
use Rattle.winner_table.proofs.overrides.indexes_of.Given as goal

abbrev pub invariant-loop-index : goal.invariant-loop-index
invariant-loop-index l = (path : List ℕ) → IsIndexAt (take l.index l.overrides) path (get (slice_cmp nat_cmp) l.indexes path)
