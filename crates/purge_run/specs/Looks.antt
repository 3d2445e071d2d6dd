-- What a look tells that refuses the plan.
use Rattle.std.specs.Prelude.{◌≡◌, ◌⊎◌, true, List}
use Rattle.std.specs.declared.option.Option.TheVariants.{Some}
use Rattle.tree_fs.specs.declared.name.Kind.TheVariants.{File, Other}
use Rattle.tree_fs.specs.Spot.{Spot, spot_of}
use Rattle.tree_fs.specs.Disk.{Disk, kind_of}
use Rattle.backup_keep.specs.Places.{backup_spot, aside_folder}
use Rattle.backup_keep.specs.Asides.{HasAside, IsAsideOpen}
use Rattle.manifest_json.specs.declared.manifest.Row.{Row}
use Rattle.change_detect.specs.Refusals.{is_blocking}
use Rattle.purge_run.specs.declared.error.PurgeError.{PurgeError}
use Rattle.purge_run.specs.declared.error.PurgeError.TheVariants.{Blocked, AsideFull, Failed, Memory}
use Rattle.purge_run.specs.Refusals.{first_in_the_way}

-- at this place
abbrev pub IsBlockedAt : Disk → Spot → PurgeError → Type 0
IsBlockedAt a x (Blocked place) = (spot_of place ≡ x) × (is_blocking (kind_of a x) ≡ true)
IsBlockedAt a x AsideFull = ⊥
IsBlockedAt a x Failed = Unit {0}
IsBlockedAt a x Memory = Unit {0}

-- at the backup place of a shadowed row
abbrev pub IsBlockedBehind : Disk → Row → PurgeError → Type 0
IsBlockedBehind a r (Blocked place) =
    (r.shadowed ≡ true) × (spot_of place ≡ backup_spot r.path)
    × (is_blocking (kind_of a (backup_spot r.path)) ≡ true)
IsBlockedBehind a r AsideFull = ⊥
IsBlockedBehind a r Failed = Unit {0}
IsBlockedBehind a r Memory = Unit {0}

-- at a place of rows, the first such
abbrev pub RefusedByRows : Disk → List Row → PurgeError → Type 0
RefusedByRows a rows (Blocked place) = first_in_the_way a rows ≡ Some (spot_of place)
RefusedByRows a rows AsideFull = ⊥
RefusedByRows a rows Failed = Unit {0}
RefusedByRows a rows Memory = Unit {0}

-- at the aside folder
abbrev pub RefusedByAside : Disk → PurgeError → Type 0
RefusedByAside a (Blocked place) =
    (spot_of place ≡ aside_folder)
    × ((kind_of a aside_folder ≡ File) ⊎ (kind_of a aside_folder ≡ Other))
RefusedByAside a AsideFull = IsAsideOpen a × HasAside a 4294967295
RefusedByAside a Failed = Unit {0}
RefusedByAside a Memory = Unit {0}
