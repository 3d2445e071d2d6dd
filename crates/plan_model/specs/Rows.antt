-- What a planner looks up for the rows of the old manifest.
use Rattle.std.specs.Prelude.{◌≡◌, ◌⊎◌, Bool, ◌&&◌, if◌then◌else◌}
use Rattle.std.specs.declared.option.Option.{Option}
use Rattle.std.specs.declared.option.Option.TheVariants.{None, Some}
use Rattle.tree_fs.specs.declared.name.Kind.TheVariants.{Absent, File, Folder}
use Rattle.tree_fs.specs.Spot.{Spot}
use Rattle.tree_fs.specs.Disk.{Disk, kind_of}
use Rattle.backup_keep.specs.Places.{backup_spot}
use Rattle.manifest_json.specs.declared.manifest.Row.{Row}
use Rattle.manifest_json.specs.declared.manifest.Manifest.{Manifest}
use Rattle.desk_model.specs.Records.{own_of, manifest_of, rows_on}
use Rattle.desk_model.specs.Desk.{is_file}

-- the manifest of a disk, or the one without rows and folders where the disk has none
abbrev pub old_of : Disk → Manifest
old_of a = record { rows = rows_on a; folders = own_of (manifest_of a) }

-- the row is shadowed, and its backup is a file
abbrev pub has_original : Disk → Row → Bool
has_original a r = r.shadowed && is_file (a.now (backup_spot r.path))

-- where the original of a row's path is kept, if it is
abbrev pub from_backup : Disk → Row → Option Spot
from_backup a r = if has_original a r then Some (backup_spot r.path) else None

abbrev pub IsFileOrAbsent : Disk → Spot → Type 0
IsFileOrAbsent a x = (kind_of a x ≡ Absent) ⊎ (kind_of a x ≡ File)

abbrev pub IsFolderOrAbsent : Disk → Spot → Type 0
IsFolderOrAbsent a x = (kind_of a x ≡ Absent) ⊎ (kind_of a x ≡ Folder)
