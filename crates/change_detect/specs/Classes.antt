-- How a row's files differ from what was deployed.
use Rattle.std.specs.Prelude.{Bool, true, false}
use Rattle.std.specs.Str.{bytes_eq}
use Rattle.std.specs.declared.option.Option.{Option}
use Rattle.std.specs.declared.option.Option.TheVariants.{None, Some}
use Rattle.sha2.specs.Sha256.{sha256}
use Rattle.tree_fs.specs.declared.name.Kind.{Kind}
use Rattle.tree_fs.specs.declared.name.Kind.TheVariants.{Absent}
use Rattle.tree_fs.specs.Spot.{Spot}
use Rattle.tree_fs.specs.Places.{game_spot, staged_spot}
use Rattle.tree_fs.specs.Disk.{Disk, kind_of, is_one_file}
use Rattle.tree_fs.specs.Parts.{bytes_at}
use Rattle.manifest_json.specs.declared.manifest.Row.{Row}
use Rattle.change_choices.specs.declared.class.Class.{Class}
use Rattle.change_choices.specs.declared.class.Class.TheVariants.{Replaced, Changed, Deleted, SourceDeleted, Gone}

-- where a row's file is unpacked: its source below the folder of its mod
abbrev pub staged_of : Row → Spot
staged_of r = staged_spot r.mod_id r.source

-- the class by what stands at the game place and at the staged place, whether they are one file,
-- and whether the digest of the file in `game` is the row's; none where the row is clean
abbrev pub class_by : (game staged : Kind) → (one_file same_digest : Bool) → Option Class
class_by Absent Absent one same = Some Gone
class_by Absent staged one same = Some Deleted
class_by game Absent one same = Some SourceDeleted
class_by game staged true true = None
class_by game staged true false = Some Changed
class_by game staged false same = Some Replaced

-- the class of a row on a disk. Two places have one file where they have one file number, so a copy
-- with the same bytes is another file
unfoldable pub class_of : Disk → Row → Option Class
class_of d r =
    let game = game_spot r.path in
    let staged = staged_of r in
    class_by (kind_of d game) (kind_of d staged) (is_one_file (d.now game) (d.now staged))
    (bytes_eq (sha256 (bytes_at d game)) r.digest.bytes)

-- the quick test takes a changed row as clean
abbrev pub unless_changed : Option Class → Option Class
unless_changed None = None
unless_changed (Some Changed) = None
unless_changed (Some Replaced) = Some Replaced
unless_changed (Some Deleted) = Some Deleted
unless_changed (Some SourceDeleted) = Some SourceDeleted
unless_changed (Some Gone) = Some Gone

-- the class of a row by the quick test
abbrev pub quick_class_of : Disk → Row → Option Class
quick_class_of d r = unless_changed (class_of d r)
