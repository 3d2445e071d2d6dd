-- `conflicts`: the paths that several mods provide, and the pairs of mods that no rule orders.
use Rattle.std.specs.Prelude.{◌≡◌, ◌↔◌, ℕ, List, ◌++◌, filter}
use Rattle.std.specs.List.{AllByRecursion, Contains}
use Rattle.tree_fs.specs.Disk.{Disk}
use Rattle.mod_rules.specs.Edges.{GraphData, AreAscending}
use Rattle.stage_scan.specs.declared.scan.Scan.{Scan}
use Rattle.winner_table.specs.declared.wins.WinRow.{WinRow}
use Rattle.winner_table.specs.Winners.{paths_of}
use Rattle.conflict_report.specs.declared.report.Report.{Report}
use Rattle.conflict_report.specs.Leading.{Leads}
use Rattle.conflict_report.specs.Reports.{is_contested, paths_in, IsReport, IsUndecided}
use Rattle.answer_lines.specs.Lists.{conflict_lines}
use Rattle.command_steps.specs.declared.look.Looked.{Looked}
use Rattle.command_steps.specs.Profiles.{enabled_ids}
use Rattle.command_steps.specs.Looks.{Look, IsLook, AreWins, placed}
use Rattle.command_steps.specs.Orders.{start, up_to_winners}
use Rattle.deploy_engine.specs.Works.{Work, looking, NoChanges}

-- the conflicts of these mods in this load order
pub record AreConflicts (scans : List Scan) (order : List ℕ) (graph : GraphData) (wins : List WinRow) (report : Report) : Type 0 where
  -- a report for each path that more than one mod provides, in path order
  pub paths : paths_in report.paths.items ≡ filter (is_contested scans order) (paths_of wins)
  pub each : AllByRecursion (IsReport scans order (Leads graph) wins) report.paths.items
  -- each pair that shares a path and that no rule orders, ascending
  pub ascending : AreAscending report.pairs.items
  pub pairs : (a b : ℕ) → (Contains report.pairs.items (a, b) ↔ IsUndecided scans (Leads graph) a b)

-- the conflicts among the mods that were looked at
abbrev pub AreConflictsOf : Looked → Report → Type 0
AreConflictsOf found report =
    AreConflicts found.scans.items found.order.items found.graph found.wins.items report

-- the lines of the conflicts among the mods that were looked at
pub record HasConflictLines (found : Looked) (text : List ℕ) : Type 0 where
  pub report : Report
  pub are_conflicts :
      AreConflicts found.scans.items found.order.items found.graph found.wins.items report
  pub lines : text ≡ conflict_lines found.ids.items report

-- the lines of the conflicts of the enabled mods
pub record PrintsConflicts (d : Disk) (text : List ℕ) : Type 0 where
  pub look : Look
  pub is_look : IsLook d look
  pub wins : List WinRow
  pub are_wins : AreWins look wins
  pub report : Report
  pub are_conflicts : AreConflicts (placed look) look.order look.graph wins report
  pub lines : text ≡ conflict_lines (enabled_ids look.profile) report

abbrev pub conflicts_work : Work
conflicts_work = looking (start ++ up_to_winners) PrintsConflicts NoChanges
