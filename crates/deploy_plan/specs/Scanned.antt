-- Winners of scans: what their sources are.
use Rattle.std.specs.Prelude.{ℕ, List, [], ◌∷◌, map, nat_eq}
use Rattle.std.specs.List.{AllByRecursion, IsDistinct}
use Rattle.std.specs.Cmp.Lexicographic.{pointwise}
use Rattle.std.specs.declared.option.Option.{Option}
use Rattle.rel_paths.specs.Names.{IsFreePath}
use Rattle.tree_fs.specs.Disk.{Disk, IsFile}
use Rattle.profile_toml.specs.Records.{OverrideData}
use Rattle.stage_scan.specs.declared.scan.Scan.{Scan}
use Rattle.stage_scan.specs.declared.placed.Sources.{Sources}
use Rattle.stage_scan.specs.Placed.{IsPlaced}
use Rattle.stage_scan.specs.Walks.{IsScan}
use Rattle.winner_table.specs.declared.wins.WinRow.{WinRow}
use Rattle.winner_table.specs.Winners.{AreWinners}
use Rattle.desk_model.specs.Deployed.{won_spot}
use Rattle.deploy_plan.specs.Sources.{AreSources, AreFrom, wins_of}

-- the scan of a mod, with each file where it is deployed, and the files' paths below the mod
pub record IsScanned (a : Disk) (scan : Scan) (own : Sources) : Type 0 where
  pub walked : Scan
  pub is_scan : IsScan a scan.mod_id walked
  pub free : AllByRecursion IsFreePath walked.files
  pub base : Option (List ℕ)
  pub placed : IsPlaced walked base (record { scan = scan; sources = own })

-- scan by scan
abbrev pub AreScanned : Disk → List Scan → List Sources → Type 0
AreScanned a [] [] = Unit {0}
AreScanned a [] (own ∷ sources) = ⊥
AreScanned a (scan ∷ scans) [] = ⊥
AreScanned a (scan ∷ scans) (own ∷ sources) = IsScanned a scan own × AreScanned a scans sources

-- the mods of the scans differ
abbrev pub HasOwnIds : List Scan → Type 0
HasOwnIds scans = IsDistinct (pointwise nat_eq) (map (λ scan. scan.mod_id) scans)

-- each file of such scans is at the target of its source
abbrev pub SourcesBelong : Type 0
SourcesBelong =
    (a : Disk) (scans : List Scan) (sources : List Sources)
    → AreScanned a scans sources → AreSources scans sources

-- each winner has a source among those of its mod's scan
abbrev pub WinnersHaveSources : Type 0
WinnersHaveSources =
    (a : Disk) (scans : List Scan) (sources : List Sources) (order : List ℕ)
    (overrides : List OverrideData) (rows : List WinRow)
    → AreScanned a scans sources → HasOwnIds scans → AreWinners scans order overrides rows
    → AreFrom scans sources rows

-- and its source is a file on the disk
abbrev pub WinnersAreStaged : Type 0
WinnersAreStaged =
    (a : Disk) (scans : List Scan) (sources : List Sources) (order : List ℕ)
    (overrides : List OverrideData) (rows : List WinRow)
    → AreScanned a scans sources → HasOwnIds scans → AreWinners scans order overrides rows
    → AllByRecursion (λ w. IsFile a (won_spot w)) (wins_of scans sources rows)
