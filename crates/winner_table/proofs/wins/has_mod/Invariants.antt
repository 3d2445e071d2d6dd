use Rattle.std.proofs.Common.{◌≡◌, take}
use Rattle.std.specs.List.{AllByRecursion}
use Rattle.winner_table.specs.Winners.{id_at}
use Rattle.winner_table.proofs.wins.has_mod.Given as goal

abbrev pub invariant-loop-node : goal.invariant-loop-node
invariant-loop-node l = AllByRecursion (λ node. id_at l.scans node ≡ l.id → ⊥) (take l.node-index l.nodes)
