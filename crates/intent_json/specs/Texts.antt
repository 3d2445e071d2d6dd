-- The text of an intent, in each version of the format.
use Rattle.std.specs.Prelude.{ℕ, List, Option, None, Some, codes}
use Rattle.serde_json.specs.Data.{Data, null, string, number, unsigned, object, member, no_members}
use Rattle.serde_json.specs.Written.{compact_text}
use Rattle.manifest_json.specs.declared.manifest.Manifest.{Manifest}
use Rattle.manifest_json.specs.declared.version.FormatVersion.{FormatVersion}
use Rattle.manifest_json.specs.declared.version.FormatVersion.TheVariants.{Two}
use Rattle.manifest_json.specs.Versions.{number_of}
use Rattle.manifest_json.specs.Texts.{manifest_data, HasForm}
use Rattle.intent_json.specs.declared.intent.Phase.{Phase}
use Rattle.intent_json.specs.declared.intent.Phase.TheVariants.{Set, Clear}
use Rattle.intent_json.specs.declared.intent.Intent.{Intent}
use Rattle.intent_json.specs.Places.{places_data, pairs_data, sets_data}

-- the manifest or `null`
abbrev pub manifest_or_null : FormatVersion → Option Manifest → Data
manifest_or_null version None = null
manifest_or_null version (Some m) = manifest_data version m

abbrev pub phase_word : Phase → List ℕ
phase_word Set = codes "set"
phase_word Clear = codes "clear"

-- the keys stand in byte order
abbrev pub intent_data : FormatVersion → Intent → Data
intent_data version i = object
    (member (codes "clears") (places_data i.plan.clears)
    (member (codes "folders") (places_data i.plan.folders)
    (member (codes "folders_off") (places_data i.plan.folders_off)
    (member (codes "manifest") (manifest_or_null version i.plan.manifest)
    (member (codes "phase") (string (phase_word i.phase))
    (member (codes "saves") (pairs_data i.plan.saves)
    (member (codes "sets") (sets_data i.plan.sets)
    (member (codes "version") (number (unsigned (number_of version))) no_members))))))))

-- compact JSON, with the manifest in the form of the same version
unfoldable pub text_in : FormatVersion → Intent → List ℕ
text_in version i = compact_text (intent_data version i)

-- the text that is written
abbrev pub text_of : Intent → List ℕ
text_of i = text_in Two i

-- the version has a form for the manifest: in the first the source of each row is its path
abbrev pub HasManifestForm : FormatVersion → Option Manifest → Type 0
HasManifestForm version None = Unit {0}
HasManifestForm version (Some m) = HasForm version m.rows

-- the intent has a text in the version
abbrev pub HasText : FormatVersion → Intent → Type 0
HasText version i = HasManifestForm version i.plan.manifest
