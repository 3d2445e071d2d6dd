use Rattle.std.proofs.Common.{◌≡◌, map, filter, take}
use Rattle.std.specs.List.{AllByRecursion}
use Rattle.winner_table.specs.Providers.{path_of}
use Rattle.conflict_report.specs.Relations.{Holds}
use Rattle.conflict_report.specs.Reports.{paths_in}
use Rattle.conflict_report.specs.Entries.{has_more, HasReport}
use Rattle.conflict_report.proofs.reasons.reports_of.Given as goal

abbrev pub invariant-loop-i : goal.invariant-loop-i
invariant-loop-i l = record {
  paths : paths_in l.reports.items ≡ map path_of (filter has_more (take l.i l.all));
  each : AllByRecursion (HasReport l.scans (Holds l.reach) l.all l.wins) l.reports.items;
}
