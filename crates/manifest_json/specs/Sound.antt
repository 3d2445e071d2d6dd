-- What the types of rows and folders keep.
use Rattle.std.specs.Prelude.{ℕ, List}
use Rattle.std.specs.List.{AllByRecursion}
use Rattle.manifest_json.specs.declared.manifest.Row.{Row}
use Rattle.manifest_json.specs.Apart.{HasApartSources}
use Rattle.rel_paths.specs.Names.{IsFreePath, IsModId}
use Rattle.manifest_json.specs.Paths.{AreRising, AreFlat}
use Rattle.manifest_json.specs.Records.{paths_of}

pub record IsRow (r : Row) : Type 0 where
  pub path : IsFreePath r.path
  pub mod_id : IsModId r.mod_id
  pub source : IsFreePath r.source

pub record AreRows (rows : List Row) : Type 0 where
  pub good : AllByRecursion IsRow rows
  pub rise : AreRising (paths_of rows)
  pub flat : AreFlat (paths_of rows)
  pub apart : HasApartSources rows

pub record AreFolders (paths : List (List ℕ)) : Type 0 where
  pub good : AllByRecursion IsFreePath paths
  pub rise : AreRising paths
