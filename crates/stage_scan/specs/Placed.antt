-- Where the files of a mod are deployed: below a base folder, or at their own paths.
use Rattle.std.specs.Prelude.{◌≡◌, ◌≤◌, ℕ, List, ◌∷◌, ◌++◌, length, map}
use Rattle.std.specs.List.{AllByRecursion}
use Rattle.std.specs.declared.option.Option.{Option}
use Rattle.std.specs.declared.option.Option.TheVariants.{None, Some}
use Rattle.rel_paths.specs.Names.{joined, IsUserPath}
use Rattle.stage_scan.specs.declared.scan.Scan.{Scan}
use Rattle.stage_scan.specs.declared.placed.Placed.{Placed}
use Rattle.stage_scan.specs.declared.placed.BaseError.{BaseError}
use Rattle.stage_scan.specs.declared.placed.BaseError.TheVariants.{TargetLong, Memory}

-- where a file is deployed: at its path, or at the base's names and then its own
abbrev pub target : Option (List ℕ) → List ℕ → List ℕ
target None source = source
target (Some base) source = joined base source

-- the scan with each file at its target, and at the same index what it is below the mod
pub record IsPlaced (scan : Scan) (base : Option (List ℕ)) (placed : Placed) : Type 0 where
  pub same : placed.scan.mod_id ≡ scan.mod_id
  pub entries : placed.scan.entries ≡ scan.entries
  pub sources : placed.sources.paths.items ≡ scan.files
  pub targets : placed.scan.files ≡ map (target base) scan.files

abbrev pub HasUserTarget : Option (List ℕ) → List ℕ → Type 0
HasUserTarget base source = IsUserPath (target base source)

-- the first of these files whose target is no user path
pub record IsFirstLong (base : Option (List ℕ)) (files : List (List ℕ)) (source : List ℕ) : Type 0 where
  pub front : List (List ℕ)
  pub back : List (List ℕ)
  pub here : files ≡ front ++ source ∷ back
  pub before : AllByRecursion (HasUserTarget base) front
  pub long : HasUserTarget base source → ⊥

-- why the files have no place below the base
abbrev pub IsBaseError : Option (List ℕ) → List (List ℕ) → BaseError → Type 0
IsBaseError base files (TargetLong source) = IsFirstLong base files source
IsBaseError base files Memory = Unit {0}
