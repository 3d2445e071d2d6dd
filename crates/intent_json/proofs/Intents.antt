-- The text of an intent tells the intent.
use Rattle.std.proofs.Common.{◌≡◌, ℕ, List, [], map, Option, None, Some, option_map, option_and_then, refl, ap, sym, ◌∙◌}
use Rattle.std.specs.List.{AllByRecursion}
use Rattle.serde_json.specs.Data.{Data}
use Rattle.serde_json.specs.Read.{read}
use Rattle.serde_json.specs.View.{items_of}
use Rattle.manifest_json.specs.declared.manifest.Manifest.{Manifest}
use Rattle.manifest_json.specs.declared.version.FormatVersion.{FormatVersion}
use Rattle.manifest_json.specs.declared.version.FormatVersion.TheVariants.{One, Two}
use Rattle.manifest_json.specs.Manifests.{list_of, version_of}
use Rattle.manifest_json.proofs.Rounds.{list_of-items_of, manifest_back}
use Rattle.intent_json.specs.declared.intent.Phase.{Phase}
use Rattle.intent_json.specs.declared.intent.Phase.TheVariants.{Set, Clear}
use Rattle.intent_json.specs.declared.intent.Intent.{Intent}
use Rattle.intent_json.specs.Places.{place_of, pair_of, set_of, place_data, pair_data, set_data, all_from}
use Rattle.intent_json.specs.Held.{IsHeld, IsHeldPair, IsHeldSet, IsHeldManifest, IsHeldPlan}
use Rattle.intent_json.specs.Texts.{manifest_or_null, phase_word, intent_data, text_in, HasManifestForm, HasText}
use Rattle.intent_json.specs.Accepted.{IsTextOf}
use Rattle.intent_json.specs.Reads.{manifest_from, some_ok, phase_of, intent_of}
use Rattle.intent_json.proofs.PlaceReads.{place_back, pair_back, set_back, all_back}
use Rattle.intent_json.proofs.Plain.{intent_plain}
use Rattle.intent_json.proofs.Compact.{read_compact}

list_back : {A : Type 0} (f : Data → Option A) (g : A → Data) (P : A → Type 0) → ((x : A) → P x → f (g x) ≡ Some x) → (xs : List A) → AllByRecursion P xs → all_from f [] (list_of (items_of (map g xs))) ≡ Some xs
list_back f g P back xs h = ap (all_from f []) (list_of-items_of (map g xs)) ∙ all_back f g P back [] xs h

manifest_same : (version : FormatVersion) (m : Option Manifest) → IsHeldManifest m → HasManifestForm version m → manifest_from (manifest_or_null version m) ≡ Some m
unfolding manifest_from
manifest_same version None h form = refl
manifest_same version (Some m) h form = ap some_ok (manifest_back version m h form)

phase_same : (p : Phase) → phase_of (phase_word p) ≡ Some p
phase_same Set = refl
phase_same Clear = refl

pub version_back : (version : FormatVersion) (i : Intent) → version_of (intent_data version i) ≡ Some version
version_back One i = refl
version_back Two i = refl

pub intent_back : (version : FormatVersion) (i : Intent) → IsHeldPlan i.plan → HasText version i → intent_of (intent_data version i) ≡ Some i
unfolding intent_of
intent_back version i h form = λ j.
    option_and_then (λ folders.
    option_and_then (λ saves.
    option_and_then (λ sets.
    option_and_then (λ manifest.
    option_and_then (λ clears.
    option_and_then (λ folders_off.
    option_map (λ phase. record { phase = phase; plan = record { folders = folders; saves = saves; sets = sets; manifest = manifest; clears = clears; folders_off = folders_off } })
    (phase_same i.phase j))
    (list_back place_of place_data IsHeld place_back i.plan.folders_off h.folders_off j))
    (list_back place_of place_data IsHeld place_back i.plan.clears h.clears j))
    (manifest_same version i.plan.manifest h.manifest form j))
    (list_back set_of set_data IsHeldSet set_back i.plan.sets h.sets j))
    (list_back pair_of pair_data IsHeldPair pair_back i.plan.saves h.saves j))
    (list_back place_of place_data IsHeld place_back i.plan.folders h.folders j)

pub text_reads : (version : FormatVersion) (i : Intent) → read (text_in version i) ≡ Some (intent_data version i)
unfolding text_in
text_reads version i = read_compact (intent_data version i) (intent_plain version i)

-- the bytes lead to the intent
pub text_tells : (bytes : List ℕ) (i : Intent) → IsHeldPlan i.plan → IsTextOf bytes i → option_and_then intent_of (read bytes) ≡ Some i
text_tells bytes i held text =
    ap (λ t. option_and_then intent_of (read t)) text.same ∙ ap (option_and_then intent_of) (text_reads text.version i) ∙ intent_back text.version i held text.has_text

-- at most one intent has a text
pub one_intent : (bytes : List ℕ) (i j : Intent) → IsHeldPlan i.plan → IsHeldPlan j.plan → IsTextOf bytes i → IsTextOf bytes j → i ≡ j
one_intent bytes i j h k first second =
    let same : Some i ≡ Some j = sym (text_tells bytes i h first) ∙ text_tells bytes j k second in cc
