use Rattle.std.proofs.Common.{◌≡◌, map, filter_map, take}
use Rattle.std.specs.List.{AllByRecursion}
use Rattle.rel_paths.specs.Names.{IsModId}
use Rattle.winner_table.specs.declared.wins.WinRow.{WinRow}
use Rattle.deploy_plan.specs.Told.{win_seen}
use Rattle.deploy_plan.specs.Sources.{found_win}
use Rattle.deploy_plan.proofs.wins.with_sources.Given as goal

abbrev pub invariant-loop-row : goal.invariant-loop-row
invariant-loop-row l = record {
  found : map win_seen l.wins.items ≡ filter_map (found_win l.scans l.sources) (map (λ (r : WinRow). r) (take l.row-index l.rows));
  ids : AllByRecursion (λ (r : WinRow). IsModId r.mod_id) (take l.row-index l.rows);
}
