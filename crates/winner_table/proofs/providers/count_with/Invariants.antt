use Rattle.std.proofs.Common.{◌≤◌, ◌-◌, length, take, map}
use Rattle.std.specs.List.{AllByRecursion}
use Rattle.winner_table.specs.Offers.{path_and_node, HasPath}
use Rattle.winner_table.proofs.providers.count_with.Given as goal

abbrev pub invariant-loop-count : goal.invariant-loop-count
invariant-loop-count l = record {
  within : l.count ≤ length l.items;
  same : AllByRecursion (HasPath l.path) (map path_and_node (take l.count l.items));
}

abbrev pub decreases-loop-count : goal.decreases-loop-count
decreases-loop-count l = length l.items - l.count
