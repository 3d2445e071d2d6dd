-- Reports from the providers of each path.
use Rattle.std.specs.Prelude.{◌≡◌, ℕ, List, Bool, length, map, nat_lt}
use Rattle.std.specs.List.{AllByRecursion, Contains}
use Rattle.stage_scan.specs.declared.scan.Scan.{Scan}
use Rattle.winner_table.specs.declared.providers.Providers.{Providers}
use Rattle.winner_table.specs.declared.wins.WinRow.{WinRow}
use Rattle.winner_table.specs.Winners.{id_at}
use Rattle.winner_table.specs.Offers.{IsNodeOf}
use Rattle.winner_table.specs.Providers.{path_of}
use Rattle.conflict_report.specs.declared.report.PathReport.{PathReport}
use Rattle.conflict_report.specs.Reports.{IsReportOf}

-- whether more than one node provides the path
abbrev pub has_more : Providers → Bool
has_more entry = nat_lt 1 (length entry.nodes.items)

-- the providers of the row's path, and its mod is that of one
pub record IsMatch (scans : List Scan) (entry : Providers) (row : WinRow) : Type 0 where
  pub nodes : AllByRecursion (IsNodeOf scans) entry.nodes.items
  pub some : Contains (map (id_at scans) entry.nodes.items) row.mod_id

-- the report of one of the rows, from the providers of its path
pub record HasReport (scans : List Scan) (leads : ℕ → ℕ → Type 0) (all : List Providers) (wins : List WinRow) (report : PathReport) : Type 0 where
  pub entry : Providers
  pub entry_among : Contains all entry
  pub row : WinRow
  pub row_among : Contains wins row
  pub at : path_of entry ≡ row.path
  pub is : IsReportOf scans leads entry.nodes.items row report
