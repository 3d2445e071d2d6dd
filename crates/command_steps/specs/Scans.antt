-- The scans of mods, one after the other, their first fault, and where their files are deployed.
use Rattle.std.specs.Prelude.{◌≡◌, ◌⊎◌, ◌≤◌, ◌<◌, ◌+◌, ◌-◌, ℕ, List, [], ◌∷◌, ◌++◌, map, slice_get}
use Rattle.std.specs.List.{AllByRecursion}
use Rattle.std.specs.declared.option.Option.{Option}
use Rattle.std.specs.declared.option.Option.TheVariants.{Some}
use Rattle.tree_fs.specs.declared.name.Kind.TheVariants.{Folder}
use Rattle.tree_fs.specs.Places.{mod_spot}
use Rattle.tree_fs.specs.Disk.{Disk, kind_of}
use Rattle.stage_scan.specs.declared.error.ScanError.{ScanError}
use Rattle.stage_scan.specs.declared.scan.Scan.{Scan}
use Rattle.stage_scan.specs.Walks.{IsScan, IsRefused, CountsInside}
use Rattle.stage_scan.specs.Placed.{target, HasUserTarget, IsFirstLong}
use Rattle.answer_lines.specs.declared.refusal.Refusal.TheVariants as group
use Rattle.answer_lines.specs.declared.refusal.ScanRefusal.TheVariants.{TargetLong}
use Rattle.command_steps.specs.declared.stop.Stop.{Stop}
use Rattle.command_steps.specs.declared.stop.Stop.TheVariants.{Refused, Memory}
use Rattle.command_steps.specs.Stops.{IsFault, IsTold, scan_stop}

-- a mod's folder is there, and so many entries are in it, none of them with a fault
pub record IsCounted (d : Disk) (id : List ℕ) (count : ℕ) : Type 0 where
  pub folder : kind_of d (mod_spot id) ≡ Folder
  pub inside : CountsInside d id count

-- together these mods have so many entries, none of them with a fault
abbrev pub CountTogether : Disk → List (List ℕ) → ℕ → Type 0
CountTogether d [] total = total ≡ 0
CountTogether d (id ∷ ids) total =
    (count : ℕ) × (rest : ℕ) × IsCounted d id count × CountTogether d ids rest
    × (total ≡ count + rest)

-- no mod has a fault, and together they have at most so many entries
pub record HaveNoFault (d : Disk) (ids : List (List ℕ)) (most : ℕ) : Type 0 where
  pub total : ℕ
  pub counts : CountTogether d ids total
  pub within : total ≤ most

-- why a mod isn't scanned, where all mods may have so many entries, and so many of them are left
pub record IsScanFault (d : Disk) (id : List ℕ) (most left : ℕ) (stop : Stop) : Type 0 where
  pub error : ScanError
  pub fault : IsRefused d id left error
  pub told : IsTold (scan_stop id most error)
  pub is : stop ≡ scan_stop id most error

abbrev pub IsTurned : Disk → List ℕ → (most left : ℕ) → Stop → Type 0
IsTurned d id most left stop = IsFault stop ⊎ IsScanFault d id most left stop

-- the first of the mods with a fault, where it may have as many entries as those before it leave of
-- the limit
pub record IsFirstScanFault (d : Disk) (ids : List (List ℕ)) (most : ℕ) (stop : Stop) : Type 0 where
  pub front : List (List ℕ)
  pub id : List ℕ
  pub back : List (List ℕ)
  pub here : ids ≡ front ++ id ∷ back
  pub total : ℕ
  pub counts : CountTogether d front total
  pub within : total ≤ most
  pub fault : IsScanFault d id most (most - total) stop

-- the scans of these mods, in their order
pub record AreScans (d : Disk) (ids : List (List ℕ)) (scans : List Scan) : Type 0 where
  pub same : map (λ s. s.mod_id) scans ≡ ids
  pub each : AllByRecursion (λ s. IsScan d s.mod_id s) scans

-- each file of each mod has a user path where it is deployed
abbrev pub HaveTargets : List (Option (List ℕ)) → List Scan → Type 0
HaveTargets bases scans =
    (node : ℕ) (base : Option (List ℕ)) (scan : Scan) → slice_get bases node ≡ Some base
    → slice_get scans node ≡ Some scan → AllByRecursion (HasUserTarget base) scan.files

-- the first file, by mod and then by path, whose path is too long where it is deployed
pub record IsFirstTargetLong (bases : List (Option (List ℕ))) (scans : List Scan) (stop : Stop) : Type 0 where
  pub node : ℕ
  pub base : Option (List ℕ)
  pub scan : Scan
  pub base_at : slice_get bases node ≡ Some base
  pub scan_at : slice_get scans node ≡ Some scan
  pub before : (other : ℕ) (its_base : Option (List ℕ)) (its_scan : Scan) → other < node
      → slice_get bases other ≡ Some its_base → slice_get scans other ≡ Some its_scan
      → AllByRecursion (HasUserTarget its_base) its_scan.files
  pub source : List ℕ
  pub long : IsFirstLong base scan.files source
  pub is : stop ≡ Refused (group.Scan (TargetLong scan.mod_id source))

-- why a mod's files aren't placed: want of memory, or the first whose path is too long there
abbrev pub IsLongStop : Option (List ℕ) → Scan → Stop → Type 0
IsLongStop base scan stop =
    (stop ≡ Memory)
    ⊎ ((source : List ℕ) × IsFirstLong base scan.files source
    × (stop ≡ Refused (group.Scan (TargetLong scan.mod_id source))))

-- a scan with its files where they are deployed
abbrev pub placed_scan : Option (List ℕ) → Scan → Scan
placed_scan base scan =
    record { mod_id = scan.mod_id; files = map (target base) scan.files; entries = scan.entries }

abbrev pub placed_scans : List (Option (List ℕ)) → List Scan → List Scan
placed_scans [] scans = []
placed_scans (base ∷ bases) [] = []
placed_scans (base ∷ bases) (scan ∷ scans) = placed_scan base scan ∷ placed_scans bases scans
