use Rattle.std.proofs.Common.{◌≡◌, All, take, map, flat_map, length, Vec, Global}
use Rattle.std.specs.List.{AllByRecursion}
use Rattle.stage_scan.specs.Files.{AreFilePaths}
use Rattle.winner_table.specs.Merged.{AreAscending}
use Rattle.winner_table.specs.Winners.{files_at}
use Rattle.winner_table.specs.Offers.{path_and_node, path_bytes, offers}
use Rattle.winner_table.specs.declared.provided.Provided.{Provided}
use Rattle.winner_table.proofs.provided.runs_of.Given as goal

abbrev pub invariant-loop-node : goal.invariant-loop-node
invariant-loop-node l =
    let done = take l.node-index l.order in
    record {
      count : length l.runs.items ≡ l.node-index;
      items : map path_and_node (flat_map (λ (run : Vec Provided Global). run.items) l.runs.items) ≡ offers l.scans done;
      ascending : All (λ (run : Vec Provided Global). AreAscending path_bytes run.items) l.runs.items;
      files : AllByRecursion (λ node. AreFilePaths (files_at l.scans node)) done;
    }
