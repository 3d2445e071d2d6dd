-- The winners with their sources.
use Rattle.std.specs.Prelude.{◌≡◌, ◌+◌, ℕ, List, [], ◌∷◌, map, if◌then◌else◌, option_map, IsSome, unwrap_or}
use Rattle.std.specs.List.{AllByRecursion}
use Rattle.std.specs.Str.{bytes_eq}
use Rattle.std.specs.declared.option.Option.{Option}
use Rattle.std.specs.declared.option.Option.TheVariants.{None, Some}
use Rattle.rel_paths.specs.Names.{IsFreePath}
use Rattle.stage_scan.specs.declared.scan.Scan.{Scan}
use Rattle.stage_scan.specs.declared.placed.Sources.{Sources}
use Rattle.stage_scan.specs.Placed.{target}
use Rattle.winner_table.specs.declared.wins.WinRow.{WinRow}
use Rattle.desk_model.specs.Deployed.{Win}

-- a scan's files are deployed below a base, or at their own paths where there is none: each file is
-- at the target of the source at its index
pub record AreItsSources (scan : Scan) (own : Sources) : Type 0 where
  pub base : Option (List ℕ)
  pub targets : scan.files ≡ map (target base) own.paths.items
  pub free : AllByRecursion IsFreePath own.paths.items

-- the sources of each scan, in the order of the scans
abbrev pub AreSources : List Scan → List Sources → Type 0
AreSources [] [] = Unit {0}
AreSources [] (own ∷ sources) = ⊥
AreSources (scan ∷ scans) [] = ⊥
AreSources (scan ∷ scans) (own ∷ sources) = AreItsSources scan own × AreSources scans sources

-- the source at the index of a file
abbrev pub source_at : (files sources : List (List ℕ)) → List ℕ → Option (List ℕ)
source_at [] sources path = None
source_at (p ∷ ps) [] path = None
source_at (p ∷ ps) (s ∷ ss) path = if bytes_eq p path then Some s else source_at ps ss path

-- the source of a mod's file
abbrev pub source_in : List Scan → List Sources → (id path : List ℕ) → Option (List ℕ)
source_in [] sources id path = None
source_in (scan ∷ scans) [] id path = None
source_in (scan ∷ scans) (own ∷ sources) id path =
    if bytes_eq scan.mod_id id then source_at scan.files own.paths.items path
    else source_in scans sources id path

-- the winners come from the scans
abbrev pub AreFrom : List Scan → List Sources → List WinRow → Type 0
AreFrom scans sources = AllByRecursion (λ row. IsSome (source_in scans sources row.mod_id row.path))

abbrev pub win_from : WinRow → List ℕ → Win
win_from row source = record { path = row.path; mod_id = row.mod_id; source = source }

-- a winner with its source, where it has one
abbrev pub found_win : List Scan → List Sources → WinRow → Option Win
found_win scans sources row = option_map (win_from row)
    (source_in scans sources row.mod_id row.path)

-- the winners with their sources
abbrev pub wins_of : List Scan → List Sources → List WinRow → List Win
wins_of scans sources =
    map (λ row. win_from row (unwrap_or (source_in scans sources row.mod_id row.path) []))

-- the index of the first scan of a mod
abbrev pub first_index : List Scan → List ℕ → Option ℕ
first_index [] id = None
first_index (scan ∷ scans) id =
    if bytes_eq scan.mod_id id then Some 0 else option_map (λ k. k + 1) (first_index scans id)
