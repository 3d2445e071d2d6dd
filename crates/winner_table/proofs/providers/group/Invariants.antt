use Rattle.std.proofs.Common.{◌≡◌, ◌≤◌, ◌-◌, ◌++◌, length, drop, map}
use Rattle.winner_table.specs.Offers.{path_and_node, grouped}
use Rattle.winner_table.specs.Providers.{path_and_nodes}
use Rattle.winner_table.proofs.providers.group.Given as goal

abbrev pub invariant-loop-start : goal.invariant-loop-start
invariant-loop-start l = record {
  within : l.start ≤ length l.provided;
  parts : map path_and_nodes l.groups.items ++ grouped (map path_and_node (drop l.start l.provided)) ≡ grouped (map path_and_node l.provided);
}

abbrev pub decreases-loop-start : goal.decreases-loop-start
decreases-loop-start l = length l.provided - l.start
