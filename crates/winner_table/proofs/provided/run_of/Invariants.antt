use Rattle.std.proofs.Common.{◌≡◌, take, map}
use Rattle.winner_table.specs.Offers.{path_and_node, offers_of}
use Rattle.winner_table.proofs.provided.run_of.Given as goal

abbrev pub invariant-loop-path : goal.invariant-loop-path
invariant-loop-path l = map path_and_node l.run.items ≡ offers_of l.node (take l.path-index l.files)
