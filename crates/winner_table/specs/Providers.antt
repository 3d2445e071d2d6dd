-- The provided paths, each with its providers.
use Rattle.std.specs.Prelude.{◌≡◌, ◌<◌, ℕ, List, length, map}
use Rattle.std.specs.List.{AllByRecursion, Contains}
use Rattle.stage_scan.specs.declared.scan.Scan.{Scan}
use Rattle.rel_paths.specs.Names.{IsFreePath}
use Rattle.stage_scan.specs.Files.{AreInPathOrder}
use Rattle.winner_table.specs.declared.providers.Providers.{Providers}
use Rattle.winner_table.specs.Winners.{providers, IsProvided}

abbrev pub path_of : Providers → List ℕ
path_of x = x.path.now

abbrev pub path_and_nodes : Providers → List ℕ × List ℕ
path_and_nodes x = (x.path.now, x.nodes.items)

-- these are the nodes that provide the path
abbrev pub HasItsProviders : List Scan → List ℕ → Providers → Type 0
HasItsProviders scans order x = x.nodes.items ≡ providers scans order (path_of x)

abbrev pub IsProvidedPath : List Scan → List ℕ → Providers → Type 0
IsProvidedPath scans order x = IsProvided scans order (path_of x)

-- each provided path once, in path order, with the nodes that provide it in the load order
pub record AreAllProviders (scans : List Scan) (order : List ℕ) (all : List Providers) : Type 0 where
  pub order_of_paths : AreInPathOrder (map path_of all)
  pub free : AllByRecursion (λ x. IsFreePath (path_of x)) all
  pub each : AllByRecursion (HasItsProviders scans order) all
  pub provided : AllByRecursion (IsProvidedPath scans order) all
  pub whole : (path : List ℕ) → IsProvided scans order path → Contains (map path_of all) path
