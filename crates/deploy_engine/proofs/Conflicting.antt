-- The nodes that a report names have ids.
use Rattle.std.proofs.Common.{◌≡◌, ℕ, ◌<◌, List, length, refl, sym, ap, ◌∙◌, subst}
use Rattle.std.specs.Prelude.{slice_get}
use Rattle.std.specs.List.{AllByRecursion, Contains}
use Rattle.std.specs.declared.option.Option.{Option}
use Rattle.std.specs.declared.option.Option.TheVariants.{None, Some}
use Rattle.std.proofs.lemmas.Option.{slice_get_within}
use Rattle.std.proofs.lemmas.List.{length-map}
use Rattle.list_laws.proofs.Alls.{all_filter, all_from_contains, all_middle, all_weaken}
use Rattle.list_laws.proofs.Containing.{contains_none}
use Rattle.mod_rules.specs.Edges.{GraphData}
use Rattle.load_order.specs.Orders.{IsLawful}
use Rattle.stage_scan.specs.declared.scan.Scan.{Scan}
use Rattle.winner_table.specs.declared.wins.WinRow.{WinRow}
use Rattle.winner_table.specs.Winners.{files_of, provides, providers, HasEachOnce}
use Rattle.conflict_report.specs.declared.report.PathReport.{PathReport}
use Rattle.conflict_report.specs.declared.report.Report.{Report}
use Rattle.conflict_report.specs.Leading.{Leads}
use Rattle.conflict_report.specs.Reports.{AreWins, IsReport, IsUndecided}
use Rattle.conflict_report.proofs.Wins.{wins-from_winners}
use Rattle.answer_lines.specs.Lists.{HasId, PathHasIds, PairHasIds, HasIds}
use Rattle.command_steps.specs.declared.look.Looked.{Looked}
use Rattle.command_steps.specs.Found.{IsWhole}
use Rattle.deploy_engine.specs.ConflictsWork.{AreConflicts}

-- where a node has a file, there is a scan of it
has_scan : (scans : List Scan) (node : ℕ) (path : List ℕ) (found : Option Scan) → slice_get scans node ≡ found → Contains (files_of found) path → node < length scans
has_scan scans node path None is there = absurd (contains_none path there)
has_scan scans node path (Some scan) is there = slice_get_within scans node scan is

module _ (scans : List Scan) (order : List ℕ) (ids : List (List ℕ)) (graph : GraphData) (wins : List WinRow) (nodes : HasEachOnce (length scans) order) (count : length ids ≡ length scans) where
  has_id : (node : ℕ) → node < length scans → HasId ids node
  has_id node within = subst (λ n. node < n) (sym count) within

  providers_have : (path : List ℕ) → AllByRecursion (HasId ids) (providers scans order path)
  providers_have path = all_filter (HasId ids) (provides scans path) order (all_from_contains (HasId ids) order (λ node among. has_id node (nodes.only node among)))

  path_has : (report : PathReport) → IsReport scans order (Leads graph) wins report → PathHasIds ids report
  path_has report found =
      let is = found.is in
      let all = providers_have found.row.path in
      record {
        winner = all_middle (HasId ids) is.winner.front report.winner is.winner.back (subst (AllByRecursion (HasId ids)) is.winner.parts all);
        providers = subst (AllByRecursion (HasId ids)) (sym is.providers) all;
      }

  pair_has : (pair : ℕ × ℕ) → IsUndecided scans (Leads graph) pair.0 pair.1 → PairHasIds ids pair
  pair_has pair is = (
    has_id pair.0 (has_scan scans pair.0 is.path (slice_get scans pair.0) refl is.first),
    has_id pair.1 (has_scan scans pair.1 is.path (slice_get scans pair.1) refl is.second),
  )

  pub conflicts_have : (report : Report) → AreConflicts scans order graph wins report → HasIds ids report
  conflicts_have report are = record {
    paths = all_weaken (IsReport scans order (Leads graph) wins) (PathHasIds ids) report.paths.items path_has are.each;
    pairs = all_from_contains (PairHasIds ids) report.pairs.items (λ pair among. pair_has pair ((are.pairs pair.0 pair.1).0 among));
  }

-- what `conflicts` is handed, and what it gives, in the parts of what was looked at
module _ (found : Looked) (whole : IsWhole found) (order : List ℕ) (scans : List Scan) (wins : List WinRow) (same_order : order ≡ found.order.items) (same_scans : scans ≡ found.scans.items) (same_wins : wins ≡ found.wins.items) where
  pub count_of : found.graph.count ≡ length scans
  count_of = whole.count ∙ ap length (sym same_scans)

  pub lawful_of : IsLawful found.graph order
  lawful_of = subst (IsLawful found.graph) (sym same_order) whole.order.lawful

  pub wins_of : AreWins scans order wins
  wins_of =
      let those = wins-from_winners found.scans.items found.order.items found.profile.overrides found.wins.items whole.winners in
      let with_scans = subst (λ s. AreWins s found.order.items found.wins.items) (sym same_scans) those in
      let with_order = subst (λ o. AreWins scans o found.wins.items) (sym same_order) with_scans in
      subst (AreWins scans order) (sym same_wins) with_order

  pub found_conflicts : (report : Report) → AreConflicts scans order found.graph wins report → AreConflicts found.scans.items found.order.items found.graph found.wins.items report
  found_conflicts report are =
      let with_scans = subst (λ s. AreConflicts s order found.graph wins report) same_scans are in
      let with_order = subst (λ o. AreConflicts found.scans.items o found.graph wins report) same_order with_scans in
      subst (λ w. AreConflicts found.scans.items found.order.items found.graph w report) same_wins with_order

  pub found_ids : (ids : List (List ℕ)) (report : Report) → ids ≡ found.ids.items → AreConflicts scans order found.graph wins report → HasIds ids report
  found_ids ids report same are =
      let count = ap length (same ∙ sym whole.same_ids) ∙ length-map found.scans.items (λ (s : Scan). s.mod_id) in
      conflicts_have found.scans.items found.order.items ids found.graph found.wins.items whole.nodes count report (found_conflicts report are)
