-- What the tests of an accepted intent tell.
use Rattle.std.proofs.Common.{◌≡◌, ℕ, ◌<◌, ◌==◌, Bool, true, false, cond, ◌&&◌, List, [], ◌∷◌, length, get_or, Option, None, Some, option_and_then, refl, ap, sym, subst, ◌∙◌, arith}
use Rattle.std.specs.Prelude.{IsUtf8, IfSome}
use Rattle.std.specs.List.{AllByRecursion, list_all}
use Rattle.std.specs.Str.{bytes_eq}
use Rattle.std.proofs.lemmas.Bool.{and_parts}
use Rattle.std.proofs.lemmas.Bool.Decides.{nat_tests}
use Rattle.std.proofs.lemmas.Slice.Eq.{bytes_eq-Decides}
use Rattle.list_laws.proofs.Alls.{all_weaken, all_this, all-from_test, test-from_all}
use Rattle.serde_json.specs.Data.{Data}
use Rattle.serde_json.specs.Read.{read}
use Rattle.manifest_json.specs.declared.manifest.Row.{Row}
use Rattle.manifest_json.specs.declared.manifest.Manifest.{Manifest}
use Rattle.manifest_json.specs.declared.version.FormatVersion.{FormatVersion}
use Rattle.manifest_json.specs.declared.version.FormatVersion.TheVariants.{One, Two}
use Rattle.manifest_json.specs.Manifests.{json_of, version_of}
use Rattle.manifest_json.specs.Texts.{HasForm}
use Rattle.manifest_json.proofs.Values.{json_read}
use Rattle.move_plan.specs.declared.plan.Plan.{Plan}
use Rattle.move_plan.specs.Rules.{PassesRules}
use Rattle.move_plan.specs.Tests.{passes}
use Rattle.move_plan.proofs.Deciding.{passes-Decides}
use Rattle.intent_json.specs.declared.intent.Phase.{Phase}
use Rattle.intent_json.specs.declared.intent.Phase.TheVariants.{Set, Clear}
use Rattle.intent_json.specs.declared.intent.Intent.{Intent}
use Rattle.intent_json.specs.Held.{IsHeldPlan}
use Rattle.intent_json.specs.Forms.{form_of, bare_of, is_bare, is_formed}
use Rattle.intent_json.specs.Texts.{intent_data, text_in, HasManifestForm}
use Rattle.intent_json.specs.Accepted.{IsBare, IsAccepted, IsTextOf, IsIntentOf}
use Rattle.intent_json.specs.Reads.{intent_of, has_own_source, has_form, has_manifest_form, is_accepted, intent_in, intent_value}
use Rattle.intent_json.proofs.Intents.{version_back, intent_back, text_reads}
use Rattle.intent_json.proofs.Bare.{bare_passes}

empty : {A : Type 0} (xs : List A) → (length xs == 0) ≡ true → xs ≡ []
empty [] h = refl
empty (x ∷ xs) h = let never : ⊥ = grind (arith, nat_tests) in absurd never

-- ---- a clear form is bare

is_bare_by : (plan : Plan) → is_bare plan ≡ true → IsBare (record { phase = Clear; plan = plan })
is_bare_by plan h =
    let one = and_parts (length plan.folders == 0) ((length plan.saves == 0) && (length plan.sets == 0)) h in
    let two = and_parts (length plan.saves == 0) (length plan.sets == 0) one.1 in
    record { folders = empty plan.folders one.0; saves = empty plan.saves two.0; sets = empty plan.sets two.1 }

bare_by : (i : Intent) → is_formed i.phase i.plan ≡ true → i.phase ≡ Clear → IsBare i
bare_by i h is =
    let bare = is_bare_by i.plan (subst (λ p. is_formed p i.plan ≡ true) is h) in
    record { folders = bare.folders; saves = bare.saves; sets = bare.sets }

formed_by : (phase : Phase) (plan : Plan) → (phase ≡ Clear → IsBare (record { phase = phase; plan = plan })) → is_formed phase plan ≡ true
formed_by Set plan bare = refl
formed_by Clear plan bare =
    let is = bare refl in λ j. (length (is.folders j) == 0) && ((length (is.saves j) == 0) && (length (is.sets j) == 0))

pub form_is : (phase : Phase) (plan : Plan) → is_formed phase plan ≡ true → form_of phase plan ≡ record { phase = phase; plan = plan }
unfolding bare_of
form_is Set plan h = refl
form_is Clear plan h =
    let is = is_bare_by plan h in
    λ j. record { phase = Clear; plan = record plan { folders = sym is.folders j; saves = sym is.saves j; sets = sym is.sets j } }

-- ---- a version has a form for a manifest

same_by : (rows : List Row) → list_all has_own_source rows ≡ true → AllByRecursion (λ (r : Row). r.source ≡ r.path) rows
same_by rows h = all_weaken _ _ rows (λ r e. (bytes_eq-Decides r.source r.path).0 e) (all-from_test _ rows h)

by_same : (rows : List Row) → AllByRecursion (λ (r : Row). r.source ≡ r.path) rows → list_all has_own_source rows ≡ true
by_same rows h = test-from_all _ rows (all_weaken _ _ rows (λ r e. (bytes_eq-Decides r.source r.path).1 e) h)

form_by : (version : FormatVersion) (rows : List Row) → has_form version rows ≡ true → HasForm version rows
form_by One rows h = same_by rows h
form_by Two rows h = tt

by_form : (version : FormatVersion) (rows : List Row) → HasForm version rows → has_form version rows ≡ true
by_form One rows h = by_same rows h
by_form Two rows h = refl

manifest_form_by : (version : FormatVersion) (m : Option Manifest) → has_manifest_form version m ≡ true → HasManifestForm version m
manifest_form_by version None h = tt
manifest_form_by version (Some m) h = form_by version m.rows h

by_manifest_form : (version : FormatVersion) (m : Option Manifest) → HasManifestForm version m → has_manifest_form version m ≡ true
by_manifest_form version None h = refl
by_manifest_form version (Some m) h = by_form version m.rows h

-- the second version has a form for each manifest
pub second_form : (m : Option Manifest) → HasManifestForm Two m
second_form None = tt
second_form (Some m) = tt

-- one item fails the test
pub lacks_one : {X : Type 0} (p : X → Bool) (xs : List X) (i : ℕ) (x : X) → i < length xs → x ≡ get_or xs i x → p x ≡ false → list_all p xs ≡ false
lacks_one p xs i x lt is fails = by_test (list_all p xs) refl
  where
    by_test : (b : Bool) → list_all p xs ≡ b → list_all p xs ≡ false
    by_test false e = e
    by_test true e =
        let passes : p x ≡ true = all_this (λ y. p y ≡ true) xs i x lt is (all-from_test p xs e) in
        let never : ⊥ = cc in absurd never

-- ---- the test of an intent

accepted_by : (version : FormatVersion) (bytes : List ℕ) (i : Intent) → is_accepted version bytes i ≡ true → IsAccepted i × IsTextOf bytes i
accepted_by version bytes i h =
    let one = and_parts (is_formed i.phase i.plan) _ h in
    let two = and_parts (passes i.plan) _ one.1 in
    let three = and_parts (has_manifest_form version i.plan.manifest) _ two.1 in (
      record { rules = (passes-Decides i.plan).0 two.0; bare = bare_by i one.0 },
      record { version = version; has_text = manifest_form_by version i.plan.manifest three.0; same = sym ((bytes_eq-Decides (text_in version i) bytes).0 three.1) },
    )

by_accepted : (bytes : List ℕ) (i : Intent) → IsAccepted i → (text : IsTextOf bytes i) → is_accepted text.version bytes i ≡ true
by_accepted bytes i good text = λ j.
    formed_by i.phase i.plan good.bare j
    && ((passes-Decides i.plan).1 good.rules j
    && (by_manifest_form text.version i.plan.manifest text.has_text j
    && (bytes_eq-Decides (text_in text.version i) bytes).1 (sym text.same) j))

-- the test as it is made: the intent in its form is printed, and the texts are compared
pub accepted_is : (version : FormatVersion) (bytes : List ℕ) (i : Intent) (text : List ℕ) → is_formed i.phase i.plan ≡ true → passes i.plan ≡ true → has_manifest_form version i.plan.manifest ≡ true → text ≡ text_in version (form_of i.phase i.plan) → bytes_eq text bytes ≡ is_accepted version bytes i
accepted_is version bytes i text formed pass form same =
    ap (λ t. bytes_eq t bytes) (same ∙ ap (text_in version) (form_is i.phase i.plan formed))
    ∙ (λ j. sym formed j && (sym pass j && (sym form j && bytes_eq (text_in version i) bytes)))

-- ---- what bytes are read as

kept_if : (b : Bool) (i j : Intent) → cond b (Some i) None ≡ Some j → (b ≡ true) × (i ≡ j)
kept_if true i j h = (refl, some_same h)
  where
    some_same : Some i ≡ Some j → i ≡ j
    some_same e = cc
kept_if false i j h = let never : ⊥ = cc in absurd never

module _ (bytes : List ℕ) (d : Data) where
  in_chain : Option FormatVersion → Option Intent → Option Intent
  in_chain v o = option_and_then (λ version. option_and_then (λ i. cond (is_accepted version bytes i) (Some i) None) o) v

  in_by : (v : Option FormatVersion) (o : Option Intent) → version_of d ≡ v → intent_of d ≡ o → intent_in bytes d ≡ in_chain v o
  unfolding intent_in in_chain
  in_by v o h k = λ j. in_chain (h j) (k j)

  pub no_version : version_of d ≡ None → None ≡ intent_in bytes d
  unfolding in_chain
  no_version h = sym (in_by None (intent_of d) h refl)

  pub no_intent : (version : FormatVersion) → version_of d ≡ Some version → intent_of d ≡ None → None ≡ intent_in bytes d
  unfolding in_chain
  no_intent version h k = sym (in_by (Some version) None h k)

  pub tested : (version : FormatVersion) (i : Intent) (b : Bool) → version_of d ≡ Some version → intent_of d ≡ Some i → is_accepted version bytes i ≡ b → cond b (Some i) None ≡ intent_in bytes d
  unfolding in_chain
  tested version i b h k is = sym (in_by (Some version) (Some i) h k ∙ ap (λ b. cond b (Some i) None) is)

module _ (bytes : List ℕ) where
  sound_of : (version : FormatVersion) (o : Option Intent) (i : Intent) → option_and_then (λ i. cond (is_accepted version bytes i) (Some i) None) o ≡ Some i → IsAccepted i × IsTextOf bytes i
  sound_of version None i h = let never : ⊥ = cc in absurd never
  sound_of version (Some j) i h =
      let kept = kept_if (is_accepted version bytes j) j i h in
      subst (λ k. IsAccepted k × IsTextOf bytes k) kept.1 (accepted_by version bytes j kept.0)

  sound_version : (v : Option FormatVersion) (o : Option Intent) (i : Intent) → option_and_then (λ version. option_and_then (λ i. cond (is_accepted version bytes i) (Some i) None) o) v ≡ Some i → IsAccepted i × IsTextOf bytes i
  sound_version None o i h = let never : ⊥ = cc in absurd never
  sound_version (Some version) o i h = sound_of version o i h

  sound_in : (d : Option Data) (i : Intent) → option_and_then (intent_in bytes) d ≡ Some i → IsAccepted i × IsTextOf bytes i
  unfolding intent_in
  sound_in None i h = let never : ⊥ = cc in absurd never
  sound_in (Some d) i h = sound_version (version_of d) (intent_of d) i h

  -- what is read is accepted, and the bytes are its text
  pub value_sound : (i : Intent) → intent_value bytes ≡ Some i → IsAccepted i × IsTextOf bytes i
  unfolding intent_value
  value_sound i h = sound_in (json_of bytes) i h

  whole_in : (i : Intent) → IsHeldPlan i.plan → IsAccepted i → (text : IsTextOf bytes i) → intent_in bytes (intent_data text.version i) ≡ Some i
  unfolding intent_in
  whole_in i held good text =
      (λ j. option_and_then (λ version. option_and_then (λ k. cond (is_accepted version bytes k) (Some k) None) (intent_back text.version i held text.has_text j)) (version_back text.version i j))
      ∙ ap (λ b. cond b (Some i) None) (by_accepted bytes i good text)

  -- an accepted intent is read from its text
  pub value_whole : (i : Intent) → IsHeldPlan i.plan → IsUtf8 bytes → IsAccepted i → IsTextOf bytes i → intent_value bytes ≡ Some i
  unfolding intent_value
  value_whole i held utf8 good text =
      ap (option_and_then (intent_in bytes)) (json_read bytes (intent_data text.version i) utf8 (ap read text.same ∙ text_reads text.version i))
      ∙ whole_in i held good text

  sound_option : (o : Option Intent) → ((i : Intent) → o ≡ Some i → IsAccepted i × IsTextOf bytes i) → IfSome o (λ i. IsAccepted i × IsTextOf bytes i)
  sound_option None h = tt
  sound_option (Some i) h = h i refl

  pub value_is : IsIntentOf bytes (intent_value bytes)
  value_is = record { sound = sound_option (intent_value bytes) value_sound; whole = value_whole }

-- ---- the text that is written

form_accepted : (phase : Phase) (plan : Plan) → PassesRules plan → IsAccepted (form_of phase plan)
unfolding bare_of
form_accepted Set plan passes = record { rules = passes; bare = λ is. let never : ⊥ = cc in absurd never }
form_accepted Clear plan passes = record { rules = bare_passes plan passes; bare = λ is. record { folders = refl; saves = refl; sets = refl } }

pub written_reads : (bytes : List ℕ) (phase : Phase) (plan : Plan) → bytes ≡ text_in Two (form_of phase plan) → IsUtf8 bytes → IsHeldPlan (form_of phase plan).plan → PassesRules plan → intent_value bytes ≡ Some (form_of phase plan)
written_reads bytes phase plan same utf8 held passes =
    value_whole bytes (form_of phase plan) held utf8 (form_accepted phase plan passes) (record { version = Two; has_text = second_form (form_of phase plan).plan.manifest; same = same })
