use Rattle.std.proofs.Common.{◌≡◌, take, map}
use Rattle.std.specs.List.{AllByRecursion}
use Rattle.winner_table.specs.Winners.{paths_of}
use Rattle.winner_table.specs.Providers.{path_of}
use Rattle.winner_table.specs.Rows.{HasEntry}
use Rattle.winner_table.proofs.wins.rows_of.Given as goal

abbrev pub invariant-loop-entry : goal.invariant-loop-entry
invariant-loop-entry l = record {
  paths : paths_of l.rows.items ≡ map path_of (take l.entry-index l.all);
  each : AllByRecursion (HasEntry l.scans l.overrides l.all) l.rows.items;
}
