use Rattle.std.proofs.Common.{◌≡◌, ◌+◌, ◌≤◌, ℕ, List, drop, length, option_map}
use Rattle.std.specs.Ordering.{nat_cmp}
use Rattle.std.specs.Cmp.Lexicographic.{slice_cmp}
use Rattle.std.specs.BTreeMap.{get}
use Rattle.deploy_plan.specs.Sources.{first_index}
use Rattle.deploy_plan.proofs.wins.indexes_of.Given as goal

abbrev pub invariant-loop-index : goal.invariant-loop-index
invariant-loop-index l = record {
  within : l.index ≤ length l.scans;
  so_far : (id : List ℕ) → get (slice_cmp nat_cmp) l.indexes id ≡ option_map (λ k. l.index + k) (first_index (drop l.index l.scans) id);
}

abbrev pub decreases-loop-index : goal.decreases-loop-index
decreases-loop-index l = l.index
