-- The intent that bytes are read as.
use Rattle.std.specs.Prelude.{ℕ, ◌&&◌, Bool, true, List, [], Option, None, Some, Result, Ok, Err, codes, option_map, option_and_then, if◌then◌else◌}
use Rattle.std.specs.List.{list_all}
use Rattle.std.specs.Str.{bytes_eq}
use Rattle.serde_json.specs.Data.{Data, null}
use Rattle.serde_json.specs.Find.{get, as_str}
use Rattle.manifest_json.specs.declared.error.ManifestError.{ManifestError}
use Rattle.manifest_json.specs.declared.manifest.Row.{Row}
use Rattle.manifest_json.specs.declared.manifest.Manifest.{Manifest}
use Rattle.manifest_json.specs.declared.version.FormatVersion.{FormatVersion}
use Rattle.manifest_json.specs.declared.version.FormatVersion.TheVariants.{One, Two}
use Rattle.manifest_json.specs.Manifests.{list_of, array_at, version_of, manifest_in, json_of}
use Rattle.move_plan.specs.Tests.{passes}
use Rattle.intent_json.specs.declared.intent.Phase.{Phase}
use Rattle.intent_json.specs.declared.intent.Phase.TheVariants.{Set, Clear}
use Rattle.intent_json.specs.declared.intent.Intent.{Intent}
use Rattle.intent_json.specs.Places.{place_of, pair_of, set_of, all_from}
use Rattle.intent_json.specs.Forms.{is_formed}
use Rattle.intent_json.specs.Texts.{text_in}

-- the values of the array at a key
abbrev pub list_at : {A : Type 0} → (Data → Option A) → List ℕ → Data → Option (List A)
list_at f key d = option_and_then (λ ds. all_from f [] (list_of ds)) (array_at key d)

abbrev pub some_ok : Result Manifest ManifestError → Option (Option Manifest)
some_ok (Ok m) = Some (Some m)
some_ok (Err e) = None

unfoldable pub manifest_from : Data → Option (Option Manifest)
manifest_from null = Some None
manifest_from d = some_ok (manifest_in d)

abbrev pub phase_of : List ℕ → Option Phase
phase_of word =
    if bytes_eq word (codes "set") then Some Set
    else if bytes_eq word (codes "clear") then Some Clear
    else None

abbrev pub phase_at : Data → Option Phase
phase_at d = option_and_then phase_of (option_and_then as_str (get (codes "phase") d))

-- a plan's parts and its phase, where all are there
unfoldable pub intent_of : Data → Option Intent
intent_of d =
    option_and_then (λ folders.
    option_and_then (λ saves.
    option_and_then (λ sets.
    option_and_then (λ manifest.
    option_and_then (λ clears.
    option_and_then (λ folders_off.
    option_map (λ phase. record {
      phase = phase;
      plan = record {
        folders = folders;
        saves = saves;
        sets = sets;
        manifest = manifest;
        clears = clears;
        folders_off = folders_off;
      };
    })
    (phase_at d))
    (list_at place_of (codes "folders_off") d))
    (list_at place_of (codes "clears") d))
    (option_and_then manifest_from (get (codes "manifest") d)))
    (list_at set_of (codes "sets") d))
    (list_at pair_of (codes "saves") d))
    (list_at place_of (codes "folders") d)

-- whether the row's source is its path
abbrev pub has_own_source : Row → Bool
has_own_source r = bytes_eq r.source r.path

-- whether the version has a form for the rows
abbrev pub has_form : FormatVersion → List Row → Bool
has_form One rows = list_all has_own_source rows
has_form Two rows = true

abbrev pub has_manifest_form : FormatVersion → Option Manifest → Bool
has_manifest_form version None = true
has_manifest_form version (Some m) = has_form version m.rows

-- whether the intent is accepted, and these bytes are its text in the version
abbrev pub is_accepted : FormatVersion → List ℕ → Intent → Bool
is_accepted version bytes i =
    is_formed i.phase i.plan
    && (passes i.plan
    && (has_manifest_form version i.plan.manifest && bytes_eq (text_in version i) bytes))

-- the intent that a JSON value is, where it is accepted and these bytes are its text
unfoldable pub intent_in : List ℕ → Data → Option Intent
intent_in bytes d =
    option_and_then (λ version.
    option_and_then (λ i. if is_accepted version bytes i then Some i else None) (intent_of d))
    (version_of d)

-- the accepted intent whose text the bytes are, or none where there is none
unfoldable pub intent_value : List ℕ → Option Intent
intent_value bytes = option_and_then (intent_in bytes) (json_of bytes)
