-- The row of one path, from its providers and its override's mod.
use Rattle.std.specs.Prelude.{◌≡◌, ◌<◌, ℕ, List, [], ◌∷◌, ◌++◌, length, map}
use Rattle.std.specs.List.{AllByRecursion, Contains}
use Rattle.std.specs.declared.option.Option.{Option}
use Rattle.std.specs.declared.option.Option.TheVariants.{None, Some}
use Rattle.stage_scan.specs.declared.scan.Scan.{Scan}
use Rattle.winner_table.specs.declared.wins.By.{By}
use Rattle.winner_table.specs.declared.wins.By.TheVariants.{Override, Order}
use Rattle.profile_toml.specs.Records.{OverrideData}
use Rattle.winner_table.specs.declared.wins.WinRow.{WinRow}
use Rattle.winner_table.specs.declared.providers.Providers.{Providers}
use Rattle.winner_table.specs.Winners.{id_at}
use Rattle.winner_table.specs.Offers.{IsNodeOf}
use Rattle.winner_table.specs.Providers.{path_of}
use Rattle.winner_table.specs.Overrides.{IsIdAt}

-- the wanted mod is among the nodes
abbrev pub IsWanted : List Scan → List ℕ → Option (List ℕ) → List ℕ → Type 0
IsWanted scans nodes wanted id = (wanted ≡ Some id) × Contains (map (id_at scans) nodes) id

-- the mod of the last node
pub record IsLastOf (scans : List Scan) (nodes id : List ℕ) : Type 0 where
  pub front : List ℕ
  pub node : ℕ
  pub last : nodes ≡ front ++ node ∷ []
  pub is : id ≡ id_at scans node

-- the wanted mod, where it is among the nodes, and otherwise that of the last one
abbrev pub IsPick : List Scan → List ℕ → Option (List ℕ) → List ℕ → By → Type 0
IsPick scans nodes wanted id Override = IsWanted scans nodes wanted id
IsPick scans nodes wanted id Order = ((other : List ℕ) → IsWanted scans nodes wanted other → ⊥) × IsLastOf scans nodes id

-- the row of a provided path
pub record IsRowOf (scans : List Scan) (overrides : List OverrideData) (entry : Providers) (row : WinRow) : Type 0 where
  pub path : row.path ≡ path_of entry
  pub wanted : Option (List ℕ)
  pub at : IsIdAt overrides (path_of entry) wanted
  pub pick : IsPick scans entry.nodes.items wanted row.mod_id row.by

-- the row of one of the provided paths
pub record HasEntry (scans : List Scan) (overrides : List OverrideData) (all : List Providers) (row : WinRow) : Type 0 where
  pub entry : Providers
  pub among : Contains all entry
  pub is : IsRowOf scans overrides entry row

-- there are nodes, and each is one of the scans'
abbrev pub HasNodes : List Scan → Providers → Type 0
HasNodes scans entry = (0 < length entry.nodes.items) × AllByRecursion (IsNodeOf scans) entry.nodes.items
