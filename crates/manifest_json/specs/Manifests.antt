-- The manifest that bytes are, or their first fault.
use Rattle.std.specs.Prelude.{ℕ, List, [], ◌∷◌, Option, Some, None, Result, Ok, option_and_then, codes, if◌then◌else◌}
use Rattle.std.specs.Result.{result_ok}
use Rattle.std.specs.Str.{is_utf8}
use Rattle.serde_json.specs.Data.{Data, Items, no_items, item}
use Rattle.serde_json.specs.Find.{get, as_array, as_object, as_number, as_u64}
use Rattle.serde_json.specs.Read.{read}
use Rattle.manifest_json.specs.declared.version.FormatVersion.{FormatVersion}
use Rattle.manifest_json.specs.declared.spot.Spot.TheVariants.{Top}
use Rattle.manifest_json.specs.declared.error.ManifestError.{ManifestError}
use Rattle.manifest_json.specs.declared.error.ManifestError.TheVariants.{NotJson, Version, Shape}
use Rattle.manifest_json.specs.declared.manifest.Manifest.{Manifest}
use Rattle.manifest_json.specs.Versions.{version_numbered}
use Rattle.manifest_json.specs.Answers.{or_fault, checked, and_then}
use Rattle.manifest_json.specs.Rows.{rows_from}
use Rattle.manifest_json.specs.Folders.{folders_from}

-- the items, as a list
abbrev pub list_of : Items → List Data
list_of no_items = []
list_of (item d ds) = d ∷ list_of ds

abbrev pub array_at : List ℕ → Data → Option Items
array_at key d = option_and_then as_array (get key d)

-- the version, where it is an integer that is known
abbrev pub version_of : Data → Option FormatVersion
version_of d =
    option_and_then version_numbered (option_and_then as_u64 (option_and_then as_number (get (codes "version") d)))

-- the files and the folders, where both are arrays
abbrev pub two_arrays : Option Items → Option Items → Option (Items × Items)
two_arrays (Some files) (Some folders) = Some (files, folders)
two_arrays _ _ = None

abbrev pub parts_of : FormatVersion → Items × Items → Result Manifest ManifestError
parts_of version p =
    and_then (rows_from version [] 0 (list_of p.0)) (λ rows.
    and_then (folders_from [] 0 (list_of p.1)) (λ folders. Ok (record { rows = rows; folders = folders })))

-- the manifest that a JSON value is, or its first fault
unfoldable pub manifest_in : Data → Result Manifest ManifestError
manifest_in d =
    and_then (or_fault (as_object d) (Shape Top)) (λ _.
    and_then (or_fault (version_of d) Version) (λ version.
    and_then (or_fault (two_arrays (array_at (codes "files") d) (array_at (codes "folders") d)) (Shape Top))
    (parts_of version)))

-- the JSON value that the bytes are
abbrev pub json_of : List ℕ → Option Data
json_of bytes = if is_utf8 bytes then read bytes else None

-- the manifest that the bytes are, or their first fault
unfoldable pub manifest_of : List ℕ → Result Manifest ManifestError
manifest_of bytes = and_then (or_fault (json_of bytes) NotJson) manifest_in

-- the manifest that the bytes are, or none where they are refused
unfoldable pub manifest_value : List ℕ → Option Manifest
manifest_value bytes = result_ok (manifest_of bytes)
