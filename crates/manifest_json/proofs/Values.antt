-- The JSON value of a text, and what it needs to be a manifest.
use Rattle.std.proofs.Common.{◌≡◌, ℕ, true, false, cond, List, [], ◌∷◌, map, Option, None, Some, Result, Ok, Err, codes, refl, ap, ◌∙◌}
use Rattle.std.specs.Prelude.{IsUtf8, is_some}
use Rattle.std.specs.Str.{is_utf8}
use Rattle.std.proofs.lemmas.Str.{is_utf8-from_IsUtf8, IsUtf8-from_is_utf8}
use Rattle.serde_json.specs.Data.{Data, Items, Members}
use Rattle.serde_json.specs.Find.{as_object}
use Rattle.serde_json.specs.Read.{read}
use Rattle.serde_json.specs.View.{view, items_view}
use Rattle.serde_json.specs.declared.value.Value.{Value}
use Rattle.manifest_json.specs.declared.manifest.Row.{Row}
use Rattle.manifest_json.specs.declared.version.FormatVersion.{FormatVersion}
use Rattle.manifest_json.specs.declared.spot.Spot.TheVariants.{Top}
use Rattle.manifest_json.specs.declared.error.ManifestError.{ManifestError}
use Rattle.manifest_json.specs.declared.error.ManifestError.TheVariants.{NotJson, Version, Shape}
use Rattle.manifest_json.specs.declared.manifest.Manifest.{Manifest}
use Rattle.manifest_json.specs.Answers.{or_fault, and_then}
use Rattle.manifest_json.specs.Rows.{rows_from}
use Rattle.manifest_json.specs.Folders.{folders_from}
use Rattle.manifest_json.specs.Manifests.{list_of, array_at, version_of, two_arrays, parts_of, manifest_in, json_of, manifest_of}

pub json_read : (bytes : List ℕ) (d : Data) → IsUtf8 bytes → read bytes ≡ Some d → json_of bytes ≡ Some d
json_read bytes d text h = ap (λ b. cond b (read bytes) None) (is_utf8-from_IsUtf8 bytes text) ∙ h

pub no_json : (bytes : List ℕ) → (IsUtf8 bytes → read bytes ≡ None) → json_of bytes ≡ None
no_json bytes h = elim (is_utf8 bytes) as (λ b. is_utf8 bytes ≡ b → cond b (read bytes) None ≡ None) [
  | true ↦ λ e. h (IsUtf8-from_is_utf8 bytes e)
  | false ↦ λ e. refl
] refl

pub list_of-view : (vs : List Value) → list_of (items_view vs) ≡ map view vs
list_of-view [] = refl
list_of-view (v ∷ vs) = ap (λ l. view v ∷ l) (list_of-view vs)

pub manifest_is : (bytes : List ℕ) (d : Data) → json_of bytes ≡ Some d → manifest_of bytes ≡ manifest_in d
unfolding manifest_of
manifest_is bytes d h = ap (λ o. and_then (or_fault o NotJson) manifest_in) h

pub not_json : (bytes : List ℕ) (e : ManifestError) → or_fault (json_of bytes) NotJson ≡ Err e → manifest_of bytes ≡ Err e
unfolding manifest_of
not_json bytes e h = ap (λ r. and_then r manifest_in) h

from_or : (o : Option Data) (e : ManifestError) (d : Data) → or_fault o e ≡ Ok d → o ≡ Some d
from_or None e d h = let never : ⊥ = cc in absurd never
from_or (Some x) e d h = cc

pub json_is : (bytes : List ℕ) (d : Data) → or_fault (json_of bytes) NotJson ≡ Ok d → json_of bytes ≡ Some d
json_is bytes d h = from_or (json_of bytes) NotJson d h

module _ (d : Data) where
  no_object_at : (o : Option Members) (rest : Members → Result Manifest ManifestError) → is_some o ≡ false → and_then (or_fault o (Shape Top)) rest ≡ Err (Shape Top)
  no_object_at None rest h = refl
  no_object_at (Some ms) rest h = let never : ⊥ = cc in absurd never

  object_at : (o : Option Members) (rest : Result Manifest ManifestError) → is_some o ≡ true → and_then (or_fault o (Shape Top)) (λ _. rest) ≡ rest
  object_at None rest h = let never : ⊥ = cc in absurd never
  object_at (Some ms) rest h = refl

  pub no_object : is_some (as_object d) ≡ false → manifest_in d ≡ Err (Shape Top)
  unfolding manifest_in
  no_object h = no_object_at (as_object d) _ h

  module _ (object : is_some (as_object d) ≡ true) where
    pub bad_version : version_of d ≡ None → manifest_in d ≡ Err Version
    unfolding manifest_in
    bad_version h = object_at (as_object d) _ object ∙ ap (λ o. and_then (or_fault o Version) (λ v. and_then (or_fault (two_arrays (array_at (codes "files") d) (array_at (codes "folders") d)) (Shape Top)) (parts_of v))) h

    module _ (version : FormatVersion) (has_version : version_of d ≡ Some version) where
      arrays_in : manifest_in d ≡ and_then (or_fault (two_arrays (array_at (codes "files") d) (array_at (codes "folders") d)) (Shape Top)) (parts_of version)
      unfolding manifest_in
      arrays_in = object_at (as_object d) _ object ∙ ap (λ o. and_then (or_fault o Version) (λ v. and_then (or_fault (two_arrays (array_at (codes "files") d) (array_at (codes "folders") d)) (Shape Top)) (parts_of v))) has_version

      pub no_files : array_at (codes "files") d ≡ None → manifest_in d ≡ Err (Shape Top)
      no_files h = arrays_in ∙ ap (λ o. and_then (or_fault (two_arrays o (array_at (codes "folders") d)) (Shape Top)) (parts_of version)) h

      module _ (files : Items) (has_files : array_at (codes "files") d ≡ Some files) where
        pub no_folders : array_at (codes "folders") d ≡ None → manifest_in d ≡ Err (Shape Top)
        no_folders h = arrays_in ∙ (λ i. and_then (or_fault (two_arrays (has_files i) (h i)) (Shape Top)) (parts_of version))

        module _ (folders : Items) (has_folders : array_at (codes "folders") d ≡ Some folders) where
          parts_in : manifest_in d ≡ parts_of version (files, folders)
          parts_in = arrays_in ∙ (λ i. and_then (or_fault (two_arrays (has_files i) (has_folders i)) (Shape Top)) (parts_of version))

          pub bad_rows : (e : ManifestError) → rows_from version [] 0 (list_of files) ≡ Err e → manifest_in d ≡ Err e
          bad_rows e h = parts_in ∙ ap (λ r. and_then r (λ rows. and_then (folders_from [] 0 (list_of folders)) (λ ps. Ok (record { rows = rows; folders = ps })))) h

          module _ (rows : List Row) (good_rows : rows_from version [] 0 (list_of files) ≡ Ok rows) where
            pub bad_folders : (e : ManifestError) → folders_from [] 0 (list_of folders) ≡ Err e → manifest_in d ≡ Err e
            bad_folders e h = parts_in ∙ (λ i. and_then (good_rows i) (λ rows. and_then (h i) (λ ps. Ok (record { rows = rows; folders = ps }))))

            pub good_parts : (ps : List (List ℕ)) → folders_from [] 0 (list_of folders) ≡ Ok ps → manifest_in d ≡ Ok (record { rows = rows; folders = ps })
            good_parts ps h = parts_in ∙ (λ i. and_then (good_rows i) (λ rows. and_then (h i) (λ ps. Ok (record { rows = rows; folders = ps }))))
