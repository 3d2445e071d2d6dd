-- What is reported of contested paths and of pairs of nodes.
use Rattle.std.specs.Prelude.{◌≡◌, ◌≢◌, ◌<◌, ℕ, List, ◌∷◌, ◌++◌, Bool, length, map, nat_lt}
use Rattle.std.specs.List.{AllByRecursion, Contains}
use Rattle.stage_scan.specs.declared.scan.Scan.{Scan}
use Rattle.stage_scan.specs.Files.{AreInPathOrder}
use Rattle.winner_table.specs.declared.wins.By.{By}
use Rattle.winner_table.specs.declared.wins.By.TheVariants.{Override as by_override, Order as by_order}
use Rattle.winner_table.specs.declared.wins.WinRow.{WinRow}
use Rattle.winner_table.specs.Winners.{files_at, id_at, paths_of, providers, IsProvided}
use Rattle.conflict_report.specs.declared.report.Why.{Why}
use Rattle.conflict_report.specs.declared.report.Why.TheVariants.{Override, Rule, Position}
use Rattle.conflict_report.specs.declared.report.PathReport.{PathReport}

-- the mod of the row provides its path
abbrev pub HasProvider : List Scan → List ℕ → WinRow → Type 0
HasProvider scans order row =
    Contains (map (id_at scans) (providers scans order row.path)) row.mod_id

-- a row for each provided path, in path order, with the mod of a provider
pub record AreWins (scans : List Scan) (order : List ℕ) (wins : List WinRow) : Type 0 where
  pub order_of_paths : AreInPathOrder (paths_of wins)
  pub each : AllByRecursion (HasProvider scans order) wins
  pub whole : (path : List ℕ) → IsProvided scans order path → Contains (paths_of wins) path

-- whether more than one node provides the path
abbrev pub is_contested : List Scan → List ℕ → List ℕ → Bool
is_contested scans order path = nat_lt 1 (length (providers scans order path))

abbrev pub paths_in : List PathReport → List (List ℕ)
paths_in reports = map (λ report. report.path) reports

-- it is the last of the nodes whose mod has this id
pub record IsLastWith (scans : List Scan) (nodes id : List ℕ) (node : ℕ) : Type 0 where
  pub front : List ℕ
  pub back : List ℕ
  pub parts : nodes ≡ front ++ node ∷ back
  pub has : id_at scans node ≡ id
  pub later : AllByRecursion (λ other. id_at scans other ≢ id) back

-- each of the nodes but the winner leads to it
abbrev pub EachLeads : (ℕ → ℕ → Type 0) → List ℕ → ℕ → Type 0
EachLeads leads nodes winner = (node : ℕ) → Contains nodes node → node ≢ winner → leads node winner

-- what decides that the winner wins over the others of the nodes
abbrev pub IsReason : (ℕ → ℕ → Type 0) → List ℕ → ℕ → By → Why → Type 0
IsReason leads nodes winner by Override = by ≡ by_override
IsReason leads nodes winner by Rule = (by ≡ by_order) × EachLeads leads nodes winner
IsReason leads nodes winner by Position = (by ≡ by_order) × (EachLeads leads nodes winner → ⊥)

-- the report of a row's path, which these nodes provide
pub record IsReportOf (scans : List Scan) (leads : ℕ → ℕ → Type 0) (nodes : List ℕ) (row : WinRow) (report : PathReport) : Type 0 where
  pub path : report.path ≡ row.path
  pub providers : report.providers.items ≡ nodes
  pub winner : IsLastWith scans nodes row.mod_id report.winner
  pub why : IsReason leads nodes report.winner row.by report.why

-- the report of one of the rows
pub record IsReport (scans : List Scan) (order : List ℕ) (leads : ℕ → ℕ → Type 0) (wins : List WinRow) (report : PathReport) : Type 0 where
  pub row : WinRow
  pub among : Contains wins row
  pub is : IsReportOf scans leads (providers scans order row.path) row report

-- the two nodes, the lower one first, share a path, and none leads to the other
pub record IsUndecided (scans : List Scan) (leads : ℕ → ℕ → Type 0) (a b : ℕ) : Type 0 where
  pub below : a < b
  pub path : List ℕ
  pub first : Contains (files_at scans a) path
  pub second : Contains (files_at scans b) path
  pub not_there : leads a b → ⊥
  pub not_back : leads b a → ⊥
