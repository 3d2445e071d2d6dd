-- The rows that `winners` gives are what `conflicts` asks for.
use Rattle.std.proofs.Common.{ℕ, List, [], map, sym, subst}
use Rattle.std.specs.List.{Contains}
use Rattle.list_laws.proofs.Alls.{all_weaken}
use Rattle.list_laws.proofs.Containing.{contains_seam, map_contains}
use Rattle.profile_toml.specs.Records.{OverrideData}
use Rattle.stage_scan.specs.declared.scan.Scan.{Scan}
use Rattle.winner_table.specs.declared.wins.By.{By}
use Rattle.winner_table.specs.declared.wins.By.TheVariants.{Override, Order}
use Rattle.winner_table.specs.declared.wins.WinRow.{WinRow}
use Rattle.winner_table.specs.Winners.{id_at, providers, IsWinner, AreWinners}
use Rattle.conflict_report.specs.Reports.{HasProvider, AreWins}

module _ (scans : List Scan) (order : List ℕ) (overrides : List OverrideData) where
  provides : (path id : List ℕ) (by : By) → IsWinner scans order overrides path id by → Contains (map (id_at scans) (providers scans order path)) id
  provides path id Override win = win.provides
  provides path id Order win =
      let last = subst (λ l. Contains l win.node) (sym win.last) (contains_seam win.front win.node []) in
      subst (Contains (map (id_at scans) (providers scans order path))) (sym win.is) (map_contains (id_at scans) (providers scans order path) win.node last)

  pub wins-from_winners : (rows : List WinRow) → AreWinners scans order overrides rows → AreWins scans order rows
  wins-from_winners rows are = record {
    order_of_paths = are.order_of_paths;
    each = all_weaken (λ (row : WinRow). IsWinner scans order overrides row.path row.mod_id row.by) (HasProvider scans order) rows
        (λ row win. provides row.path row.mod_id row.by win) are.each;
    whole = are.whole;
  }
