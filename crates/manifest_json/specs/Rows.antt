-- The rows of a JSON value.
use Rattle.std.specs.Prelude.{ℕ, ◌+◌, List, [], ◌∷◌, Bool, not, ◌&&◌, Option, Result, Ok, option_map, option_and_then, unwrap_or, reverse, codes}
use Rattle.std.specs.List.{list_any}
use Rattle.serde_json.specs.Data.{Data}
use Rattle.serde_json.specs.Find.{get, as_str, as_bool}
use Rattle.manifest_json.specs.declared.digest.FileDigest.{FileDigest}
use Rattle.manifest_json.specs.declared.manifest.Row.{Row}
use Rattle.manifest_json.specs.declared.version.FormatVersion.{FormatVersion}
use Rattle.manifest_json.specs.declared.spot.Spot.TheVariants.{File}
use Rattle.manifest_json.specs.declared.error.ManifestError.{ManifestError}
use Rattle.manifest_json.specs.declared.error.ManifestError.TheVariants.{Shape, BadPath, Order, Nested, Source}
use Rattle.manifest_json.specs.Digests.{digest_of}
use Rattle.manifest_json.specs.Paths.{is_free_path, is_mod_id, is_above}
use Rattle.rel_paths.specs.Names.{extends}
use Rattle.manifest_json.specs.Records.{paths_of}
use Rattle.manifest_json.specs.Versions.{source_key}
use Rattle.manifest_json.specs.Sources.{meets}
use Rattle.manifest_json.specs.Answers.{or_fault, checked, and_then}

-- the text, the truth value and the digest at a key
abbrev pub text_at : List ℕ → Data → Option (List ℕ)
text_at key d = option_and_then as_str (get key d)

abbrev pub flag_at : List ℕ → Data → Option Bool
flag_at key d = option_and_then as_bool (get key d)

abbrev pub digest_at : List ℕ → Data → Option FileDigest
digest_at key d = option_and_then digest_of (text_at key d)

-- the row, where each of its keys has a value of its kind
unfoldable pub row_of : FormatVersion → Data → Option Row
row_of version d =
    option_and_then (λ digest.
    option_and_then (λ id.
    option_and_then (λ path.
    option_and_then (λ shadowed.
    option_map (λ source. record { path = path; mod_id = id; digest = digest; shadowed = shadowed; source = source })
    (text_at (source_key version) d))
    (flag_at (codes "shadowed") d))
    (text_at (codes "path") d))
    (text_at (codes "mod") d))
    (digest_at (codes "digest") d)

-- the texts of a row
abbrev pub path_in : Data → List ℕ
path_in d = unwrap_or (text_at (codes "path") d) []

abbrev pub id_in : Data → List ℕ
id_in d = unwrap_or (text_at (codes "mod") d) []

abbrev pub source_in : FormatVersion → Data → List ℕ
source_in version d = unwrap_or (text_at (source_key version) d) []

abbrev pub has_good_paths : Row → Bool
has_good_paths r = is_mod_id r.mod_id && is_free_path r.path && is_free_path r.source

-- the row of file i alone, or its first fault
unfoldable pub row_alone : FormatVersion → ℕ → Data → Result Row ManifestError
row_alone version i d =
    and_then (or_fault (row_of version d) (Shape (File i))) (λ r. checked (has_good_paths r) (BadPath (File i)) r)

-- the row by its path, or the first fault of its path behind others, which come last one first
unfoldable pub row_behind : List Row → ℕ → Row → Result Row ManifestError
row_behind earlier i r =
    and_then (checked (is_above (paths_of earlier) r.path) (Order (File i)) r)
    (λ r. checked (not (list_any (extends r.path) (paths_of earlier))) (Nested (File i)) r)

-- the row by its source, or the fault of its source beside others
unfoldable pub row_beside : List Row → ℕ → Row → Result Row ManifestError
row_beside earlier i r = checked (not (list_any (meets r) earlier)) (Source (File i)) r

-- the row at its place, or its first fault there. The rows in front of it come last one first
abbrev pub row_at : FormatVersion → List Row → ℕ → Data → Result Row ManifestError
row_at version earlier i d =
    and_then (row_alone version i d) (λ r. and_then (row_behind earlier i r) (row_beside earlier i))

-- the rows behind these, which come last one first, and the files from file i on; or the first fault
abbrev pub rows_from : FormatVersion → List Row → ℕ → List Data → Result (List Row) ManifestError
rows_from version earlier i [] = Ok (reverse earlier)
rows_from version earlier i (d ∷ ds) =
    and_then (row_at version earlier i d) (λ r. rows_from version (r ∷ earlier) (i + 1) ds)
