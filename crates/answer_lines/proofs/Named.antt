-- The nodes that a load order and a report of conflicts name have ids.
use Rattle.std.proofs.Common.{◌≡◌, ◌<◌, ◌↔◌, ℕ, List, length, sym, subst}
use Rattle.std.specs.List.{AllByRecursion, Contains}
use Rattle.list_laws.proofs.Alls.{all_from_contains, all_weaken}
use Rattle.list_laws.proofs.Containing.{contains_filter, contains_seam}
use Rattle.stage_scan.specs.declared.scan.Scan.{Scan}
use Rattle.winner_table.specs.declared.wins.WinRow.{WinRow}
use Rattle.winner_table.specs.Winners.{provides, providers, HasEachOnce}
use Rattle.conflict_report.specs.declared.report.PathReport.{PathReport}
use Rattle.conflict_report.specs.declared.report.Report.{Report}
use Rattle.conflict_report.specs.Reports.{IsReport, IsUndecided}
use Rattle.conflict_report.proofs.Reporting.{has_scan}
use Rattle.answer_lines.specs.Lists.{HasId, PathHasIds, PairHasIds, HasIds}

-- There are as many ids as scans, and the order has no other nodes than theirs.
module _ (scans : List Scan) (order : List ℕ) (ids : List (List ℕ)) (count : length ids ≡ length scans) (once : HasEachOnce (length scans) order) where
  has_id : (node : ℕ) → Contains order node → HasId ids node
  has_id node c = subst (λ n. node < n) (sym count) (once.only node c)

  pub ids_in_order : AllByRecursion (HasId ids) order
  ids_in_order = all_from_contains (HasId ids) order has_id

  provider_has_id : (path : List ℕ) (node : ℕ) → Contains (providers scans order path) node → HasId ids node
  provider_has_id path node c = has_id node (contains_filter (provides scans path) order node c).0

  pub ids_in_path : (leads : ℕ → ℕ → Type 0) (wins : List WinRow) (report : PathReport) → IsReport scans order leads wins report → PathHasIds ids report
  ids_in_path leads wins report r = record {
    winner = provider_has_id r.row.path report.winner
        (subst (λ nodes. Contains nodes report.winner) (sym r.is.winner.parts) (contains_seam r.is.winner.front report.winner r.is.winner.back));
    providers = subst (AllByRecursion (HasId ids)) (sym r.is.providers)
        (all_from_contains (HasId ids) (providers scans order r.row.path) (provider_has_id r.row.path));
  }

  pub ids_in_pair : (leads : ℕ → ℕ → Type 0) (a b : ℕ) → IsUndecided scans leads a b → PairHasIds ids (a, b)
  ids_in_pair leads a b u = (
    subst (λ n. a < n) (sym count) (has_scan scans a u.path u.first),
    subst (λ n. b < n) (sym count) (has_scan scans b u.path u.second),
  )

  -- a report that is exact names only nodes that have ids
  pub ids_in_report : (leads : ℕ → ℕ → Type 0) (wins : List WinRow) (report : Report) → AllByRecursion (IsReport scans order leads wins) report.paths.items → ((a b : ℕ) → Contains report.pairs.items (a, b) ↔ IsUndecided scans leads a b) → HasIds ids report
  ids_in_report leads wins report each pairs = record {
    paths = all_weaken _ (PathHasIds ids) report.paths.items (ids_in_path leads wins) each;
    pairs = all_from_contains (PairHasIds ids) report.pairs.items (λ pair c. ids_in_pair leads pair.0 pair.1 ((pairs pair.0 pair.1).0 c));
  }
