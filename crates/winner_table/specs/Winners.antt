-- Which nodes provide a path, and which of them wins it.
use Rattle.std.specs.Prelude.{◌≡◌, ◌≢◌, ℕ, ◌<◌, Bool, false, List, [], ◌∷◌, ◌++◌, length, map, filter, slice_get}
use Rattle.std.specs.List.{AllByRecursion, Contains, list_any}
use Rattle.std.specs.Str.{bytes_eq}
use Rattle.std.specs.declared.option.Option.{Option}
use Rattle.std.specs.declared.option.Option.TheVariants.{None, Some}
use Rattle.profile_toml.specs.Records.{OverrideData}
use Rattle.stage_scan.specs.declared.scan.Scan.{Scan}
use Rattle.rel_paths.specs.Names.{IsFreePath}
use Rattle.stage_scan.specs.Files.{AreInPathOrder}
use Rattle.winner_table.specs.declared.wins.By.{By}
use Rattle.winner_table.specs.declared.wins.By.TheVariants.{Override, Order}
use Rattle.winner_table.specs.declared.wins.WinRow.{WinRow}

abbrev pub files_of : Option Scan → List (List ℕ)
files_of None = []
files_of (Some scan) = scan.files

abbrev pub id_of : Option Scan → List ℕ
id_of None = []
id_of (Some scan) = scan.mod_id

-- the files of a node: scan k is that of node k
abbrev pub files_at : List Scan → ℕ → List (List ℕ)
files_at scans node = files_of (slice_get scans node)

-- the id of a node's mod
abbrev pub id_at : List Scan → ℕ → List ℕ
id_at scans node = id_of (slice_get scans node)

-- whether a node has this file
abbrev pub provides : List Scan → List ℕ → ℕ → Bool
provides scans path node = list_any (bytes_eq path) (files_at scans node)

-- the nodes of the load order that have this file, in that order
abbrev pub providers : List Scan → List ℕ → List ℕ → List ℕ
providers scans order path = filter (provides scans path) order

-- some node of the order has this file
pub record IsProvided (scans : List Scan) (order path : List ℕ) : Type 0 where
  pub node : ℕ
  pub among : Contains order node
  pub file : Contains (files_at scans node) path

-- the list has each of so many nodes once, and nothing else
pub record HasEachOnce (count : ℕ) (order : List ℕ) : Type 0 where
  pub every : (node : ℕ) → node < count → Contains order node
  pub only : (node : ℕ) → Contains order node → node < count
  pub once : (front : List ℕ) (node : ℕ) (back : List ℕ) → order ≡ front ++ node ∷ back → Contains front node → ⊥

-- an override gives the path to this mod, and the mod provides it
pub record IsOverridden (scans : List Scan) (order : List ℕ) (overrides : List OverrideData) (path id : List ℕ) : Type 0 where
  pub entry : OverrideData
  pub among : Contains overrides entry
  pub at : entry.path ≡ path
  pub to : entry.mod_id ≡ id
  pub provides : Contains (map (id_at scans) (providers scans order path)) id

-- no override decides, and this is the mod of the last provider
pub record IsLast (scans : List Scan) (order : List ℕ) (overrides : List OverrideData) (path id : List ℕ) : Type 0 where
  pub free : (other : List ℕ) → IsOverridden scans order overrides path other → ⊥
  pub front : List ℕ
  pub node : ℕ
  pub last : providers scans order path ≡ front ++ node ∷ []
  pub is : id ≡ id_at scans node

-- this mod wins the path, and this decides it
abbrev pub IsWinner : List Scan → List ℕ → List OverrideData → List ℕ → List ℕ → By → Type 0
IsWinner scans order overrides path id Override = IsOverridden scans order overrides path id
IsWinner scans order overrides path id Order = IsLast scans order overrides path id

abbrev pub paths_of : List WinRow → List (List ℕ)
paths_of rows = map (λ row. row.path) rows

-- each provided path once, in path order, with the mod that wins it
pub record AreWinners (scans : List Scan) (order : List ℕ) (overrides : List OverrideData) (rows : List WinRow) : Type 0 where
  pub order_of_paths : AreInPathOrder (paths_of rows)
  pub each : AllByRecursion (λ row. IsWinner scans order overrides row.path row.mod_id row.by) rows
  pub whole : (path : List ℕ) → IsProvided scans order path → Contains (paths_of rows) path
