use Rattle.std.proofs.Common.{◌≡◌, take, map}
use Rattle.winner_table.specs.Offers.{path_and_node}
use Rattle.winner_table.proofs.Grouping.{node}
use Rattle.winner_table.proofs.providers.nodes_of.Given as goal

abbrev pub invariant-loop-item : goal.invariant-loop-item
invariant-loop-item l = l.nodes.items ≡ map node (map path_and_node (take l.item-index l.items))
