use Rattle.std.proofs.Common.{◌≤◌, ◌^◌, List, length, map, flat_map, Vec, Global, sym, ap, ◌∙◌, arith}
use Rattle.winner_table.specs.Merged.{sorted_by}
use Rattle.winner_table.specs.Offers.{path_and_node}
use Rattle.winner_table.specs.declared.provided.Provided.{Provided}
use Rattle.winner_table.proofs.Grouping.{path}
use Rattle.winner_table.proofs.Gathering.{sorted_pairs}
use Rattle.winner_table.proofs.Room.{affordable_start}
use Rattle.winner_table.proofs.provided.all_provided.Goals as goal

pub merge_runs-requires-clause-count : goal.merge_runs-requires-clause-count
merge_runs-requires-clause-count c =
    let runs = c.in_ok-runs.runs in
    let few : length runs.items ≤ 2 ^ 32 = omega (arith, c.in_ok-runs.ensures.count, c.requires.few) in
    let room = affordable_start runs.items few in
    (room.0, omega (arith, room.1, runs.ok.0), omega (arith, room.2, c.new-comparison.ensures))

pub returns-in-Ok-clause-items : goal.returns-in-Ok-clause-items
returns-in-Ok-clause-items c =
    ap (map path_and_node) c.in-Ok.ensures.ok
    ∙ sorted_pairs (flat_map (λ (run : Vec Provided Global). run.items) c.in_ok-runs.runs.items)
    ∙ ap (sorted_by path) c.in_ok-runs.ensures.items
