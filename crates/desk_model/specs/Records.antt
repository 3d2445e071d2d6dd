-- What a disk says of itself: its manifest, its profile, and where a row is found.
use Rattle.std.specs.Prelude.{ℕ, ◌&&◌, if◌then◌else◌, List, [], ◌∷◌}
use Rattle.std.specs.declared.option.Option.{Option}
use Rattle.std.specs.declared.option.Option.TheVariants.{None, Some}
use Rattle.rel_paths.specs.Names.{names_of, backup_names}
use Rattle.tree_fs.specs.Disk.{Disk, Value, none, file, odd}
use Rattle.manifest_json.specs.declared.manifest.Row.{Row}
use Rattle.manifest_json.specs.declared.manifest.Manifest.{Manifest}
use Rattle.manifest_json.specs.Manifests.{manifest_value}
use Rattle.desk_model.specs.Places.{Names, names_eq, manifest_spot, profile_spot}

-- what stands at the manifest's place: no file, bytes that are refused, or a manifest
pub data Recorded : Type 0 where
  nothing : Recorded
  refused : List ℕ → Recorded
  recorded : Manifest → Recorded

-- its rows and its own folders; none where there is no manifest, or the bytes are refused
abbrev pub rows_of : Recorded → List Row
rows_of nothing = []
rows_of (refused bytes) = []
rows_of (recorded m) = m.rows

abbrev pub own_of : Recorded → List (List ℕ)
own_of nothing = []
own_of (refused bytes) = []
own_of (recorded m) = m.folders

abbrev pub read_as : List ℕ → Option Manifest → Recorded
read_as bytes None = refused bytes
read_as bytes (Some m) = recorded m

-- what the value of the manifest's place is read as
abbrev pub recorded_by : (ℕ → List ℕ) → Value → Recorded
recorded_by bytes none = nothing
recorded_by bytes odd = nothing
recorded_by bytes (file n) = read_as (bytes n) (manifest_value (bytes n))

-- the manifest of a disk, and its rows
abbrev pub manifest_of : Disk → Recorded
manifest_of d = recorded_by d.bytes (d.now manifest_spot)

abbrev pub rows_on : Disk → List Row
rows_on d = rows_of (manifest_of d)

abbrev pub text_by : (ℕ → List ℕ) → Value → Option (List ℕ)
text_by bytes none = None
text_by bytes odd = None
text_by bytes (file n) = Some (bytes n)

-- the bytes of the profile, or none
abbrev pub profile_text : Disk → Option (List ℕ)
profile_text d = text_by d.bytes (d.now profile_spot)

-- the row of a path
unfoldable pub row_at : List Row → Names → Option Row
row_at [] p = None
row_at (r ∷ rs) p = if names_eq (names_of r.path) p then Some r else row_at rs p

-- the shadowed row whose backup has this path
unfoldable pub row_behind : List Row → Names → Option Row
row_behind [] p = None
row_behind (r ∷ rs) p =
    if r.shadowed && names_eq (backup_names (names_of r.path)) p then Some r else row_behind rs p

-- the names of a row's staged place: its mod, then those of its source
abbrev pub staged_names : Row → Names
staged_names r = r.mod_id ∷ names_of r.source

-- the row of a staged place
unfoldable pub row_staged : List Row → Names → Option Row
row_staged [] p = None
row_staged (r ∷ rs) p = if names_eq (staged_names r) p then Some r else row_staged rs p
