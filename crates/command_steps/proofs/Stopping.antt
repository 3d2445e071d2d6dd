-- From the errors of calls to why a step stops a command.
use Rattle.std.proofs.Common.{◌≡◌, ◌≢◌, ◌⊎◌, ℕ, ◌≤◌, List, [], ◌∷◌, length, refl, sym, ap, ◌∙◌, subst, inl, inr}
use Rattle.std.specs.Prelude.{Ok, Err, option_map}
use Rattle.std.specs.declared.option.Option.{Option}
use Rattle.std.specs.declared.option.Option.TheVariants.{None, Some}
use Rattle.std.specs.declared.result.Result.{Result}
use Rattle.std.specs.Result.{result_ok}
use Rattle.tree_fs.specs.declared.name.Kind.TheVariants.{File}
use Rattle.tree_fs.specs.Spot.{Spot}
use Rattle.tree_fs.specs.Disk.{Disk, Value, none, file, odd, kind_of, IsValid}
use Rattle.tree_fs.specs.Parts.{bytes_at, bytes_of}
use Rattle.tree_fs.specs.Story.{Story, disk_of}
use Rattle.tree_fs.proofs.Disks.{file-no_folder}
use Rattle.tree_fs.proofs.KindOf.{kind-file, file-kind}
use Rattle.profile_toml.specs.declared.error.ProfileError.{ProfileError}
use Rattle.profile_toml.specs.declared.error.ProfileError.TheVariants as read
use Rattle.profile_toml.specs.Records.{ProfileData}
use Rattle.profile_toml.specs.Plain.{default_value}
use Rattle.profile_toml.specs.Profiles.{profile_of}
use Rattle.mod_rules.specs.declared.error.RuleError.{RuleError}
use Rattle.mod_rules.specs.declared.error.RuleError.TheVariants as rule
use Rattle.mod_rules.specs.Checks.{first_failing_rule, error_of}
use Rattle.stage_scan.specs.declared.error.ScanError.{ScanError}
use Rattle.stage_scan.specs.Walks.{IsRefused}
use Rattle.manifest_json.specs.declared.error.ManifestError.{ManifestError}
use Rattle.manifest_json.specs.declared.error.ManifestError.TheVariants as fault
use Rattle.manifest_json.specs.declared.manifest.Manifest.{Manifest}
use Rattle.manifest_json.specs.declared.manifest.Row.{Row}
use Rattle.manifest_json.specs.Manifests as json
use Rattle.change_detect.specs.declared.error.ChangeError.{ChangeError}
use Rattle.change_detect.specs.declared.error.ChangeError.TheVariants as change
use Rattle.change_detect.specs.Refusals.{IsChangeRefusal}
use Rattle.intent_journal.specs.declared.error.IntentError.{IntentError}
use Rattle.intent_journal.specs.declared.error.IntentError.TheVariants as bad
use Rattle.intent_journal.specs.Found.{IsNoIntent}
use Rattle.desk_model.specs.Places.{profile_spot, manifest_spot}
use Rattle.desk_model.specs.Records.{nothing, recorded_by, read_as, text_by, profile_text, rows_on, rows_of}
use Rattle.command_steps.specs.declared.limits.Limits.{Limits}
use Rattle.command_steps.specs.declared.stop.Stop.{Stop}
use Rattle.command_steps.specs.declared.stop.Stop.TheVariants.{Refused, RecoverFirst, TreeFault, Memory}
use Rattle.command_steps.specs.Stops.{IsFault, IsTold, profile_stop, rule_stop, scan_stop, manifest_stop, change_stop, intent_stop}
use Rattle.command_steps.specs.Mods.{ListsMods}
use Rattle.command_steps.specs.Profiles.{ReadsAs, ReadsProfile, HasProfile, IsReadStop}
use Rattle.command_steps.specs.Scans.{IsTurned}
use Rattle.command_steps.specs.Manifests.{HasManifest, manifest_size}
use Rattle.command_steps.specs.Steps.{rules, profile, manifest, changes, intent}
use Rattle.command_steps.specs.Orders.{IsWhy}

fault_or_told : (stop : Stop) → IsFault stop ⊎ IsTold stop
fault_or_told (Refused refusal) = inr tt
fault_or_told RecoverFirst = inr tt
fault_or_told TreeFault = inl tt
fault_or_told Memory = inl tt

-- What a file that is there holds

module _ (d : Disk) (q : Spot) (is : kind_of d q ≡ File) where
  number : ℕ
  number = (kind-file d q is).1.0

  value : d.now q ≡ file number
  unfolding number
  value = (kind-file d q is).1.1

  bytes_there : bytes_at d q ≡ d.bytes number
  bytes_there = ap (bytes_of d) value

no_file : (d : Disk) (q : Spot) → IsValid d → kind_of d q ≢ File → (n : ℕ) → d.now q ≡ file n → ⊥
no_file d q valid other n is = other (file-kind d q (file-no_folder d q valid (n, is)) (n, is))

-- The profile

pub read_there : (d : Disk) (bytes : List ℕ) (r : Result ProfileData ProfileError) → kind_of d profile_spot ≡ File → bytes ≡ bytes_at d profile_spot → profile_of bytes ≡ r → ReadsProfile d r
read_there d bytes r is same read =
    let text : profile_text d ≡ Some (d.bytes (number d profile_spot is)) = ap (text_by d.bytes) (value d profile_spot is) in
    subst (λ t. ReadsAs d t r) (sym text) (sym read ∙ ap profile_of (same ∙ bytes_there d profile_spot is))

no_text : (d : Disk) (v : Value) → ((n : ℕ) → v ≡ file n → ⊥) → text_by d.bytes v ≡ None
no_text d none h = refl
no_text d odd h = refl
no_text d (file n) h = absurd (h n refl)

pub has_default : (d : Disk) (ids : List (List ℕ)) (p : ProfileData) → IsValid d → kind_of d profile_spot ≢ File → ListsMods d ids → p ≡ default_value ids → HasProfile d p
has_default d ids p valid other lists is =
    subst (λ t. ReadsAs d t (Ok p)) (sym (no_text d (d.now profile_spot) (no_file d profile_spot valid other))) (ids, lists, ap (λ q. Ok q) is)

told_or_memory : (e : ProfileError) → (e ≡ read.Memory) ⊎ IsTold (profile_stop e)
told_or_memory read.Memory = inl refl
told_or_memory _ = inr tt

pub read_stop : (d : Disk) (bytes : List ℕ) (e : ProfileError) → kind_of d profile_spot ≡ File → bytes ≡ bytes_at d profile_spot → ((e ≡ read.Memory → ⊥) → profile_of bytes ≡ Err e) → IsReadStop d (profile_stop e)
read_stop d bytes e is same why = elim (told_or_memory e) [
  | inl memory ↦ inl (subst (λ x. IsFault (profile_stop x)) (sym memory) tt)
  | inr told ↦ inr (record { error = e; read = read_there d bytes (Err e) is same (why (λ no. subst (λ x. IsTold (profile_stop x)) no told)); told = told; is = refl })
]

pub profile_why : (limits : Limits) (s t : Story) (stop : Stop) → t ≡ s → IsReadStop (disk_of s) stop → IsWhy (profile ∷ []) limits s stop t
profile_why limits s t stop same (inl fault) = record { why = inl fault }
profile_why limits s t stop same (inr found) = record { why = inr (inl (inl found, same)) }

-- The rules

rule_told : (e : RuleError) → (e ≡ rule.Memory) ⊎ IsTold (rule_stop e)
rule_told rule.Memory = inl refl
rule_told _ = inr tt

some_of : {X Y : Type 0} (f : X → Y) (o : Option X) (y : Y) → option_map f o ≡ Some y → (x : X) × (o ≡ Some x) × (f x ≡ y)
some_of f None y e = cc
some_of f (Some x) y e = (x, refl, cc)

pub rules_why : (limits : Limits) (s : Story) (p : ProfileData) (e : RuleError) → HasProfile (disk_of s) p → ((e ≡ rule.Memory → ⊥) → option_map error_of (first_failing_rule p) ≡ Some e) → IsWhy (rules ∷ []) limits s (rule_stop e) s
rules_why limits s p e has why = elim (rule_told e) [
  | inl memory ↦ record { why = inl (subst (λ x. IsFault (rule_stop x)) (sym memory) tt) }
  | inr told ↦
      let failing = some_of error_of (first_failing_rule p) e (why (λ no. subst (λ x. IsTold (rule_stop x)) no told)) in
      record { why = inr (inl ((p, has, failing.0, failing.1, ap rule_stop (sym failing.2)), refl)) }
]

-- A scan

pub turned : (d : Disk) (id : List ℕ) (most left : ℕ) (e : ScanError) (stop : Stop) → IsRefused d id left e → (stop ≡ scan_stop id most e) ⊎ (stop ≡ Memory) → IsTurned d id most left stop
turned d id most left e stop refused (inl is) = elim (fault_or_told (scan_stop id most e)) [
  | inl fault ↦ inl (subst IsFault (sym is) fault)
  | inr told ↦ inr (record { error = e; fault = refused; told = told; is = is })
]
turned d id most left e stop refused (inr is) = inl (subst IsFault (sym is) tt)

-- The manifest

no_record : (d : Disk) (v : Value) → ((n : ℕ) → v ≡ file n → ⊥) → recorded_by d.bytes v ≡ nothing
no_record d none h = refl
no_record d odd h = refl
no_record d (file n) h = absurd (h n refl)

pub no_manifest : (d : Disk) → IsValid d → kind_of d manifest_spot ≢ File → HasManifest d None
no_manifest d valid other = no_record d (d.now manifest_spot) (no_file d manifest_spot valid other)

none_size : (d : Disk) (v : Value) → ((n : ℕ) → v ≡ file n → ⊥) → bytes_of d v ≡ []
none_size d none h = refl
none_size d odd h = refl
none_size d (file n) h = absurd (h n refl)

pub no_size : (d : Disk) → IsValid d → kind_of d manifest_spot ≢ File → manifest_size d ≡ 0
no_size d valid other = ap length (none_size d (d.now manifest_spot) (no_file d manifest_spot valid other))

value_read : (bytes : List ℕ) (m : Manifest) → json.manifest_of bytes ≡ Ok m → json.manifest_value bytes ≡ Some m
unfolding json.manifest_value
value_read bytes m is = ap result_ok is

pub manifest_there : (d : Disk) (bytes : List ℕ) (m : Manifest) → kind_of d manifest_spot ≡ File → bytes ≡ bytes_at d manifest_spot → json.manifest_of bytes ≡ Ok m → HasManifest d (Some m)
manifest_there d bytes m is same read =
    let here = number d manifest_spot is in
    let whole : bytes ≡ d.bytes here = same ∙ bytes_there d manifest_spot is in
    ap (recorded_by d.bytes) (value d manifest_spot is) ∙ ap (read_as (d.bytes here)) (value_read (d.bytes here) m (ap json.manifest_of (sym whole) ∙ read))

manifest_told : (e : ManifestError) → (e ≡ fault.Memory) ⊎ IsTold (manifest_stop e)
manifest_told fault.Memory = inl refl
manifest_told _ = inr tt

pub manifest_why : (limits : Limits) (s t : Story) (bytes : List ℕ) (e : ManifestError) → t ≡ s → kind_of (disk_of s) manifest_spot ≡ File → bytes ≡ bytes_at (disk_of s) manifest_spot → manifest_size (disk_of s) ≤ limits.text
    → ((e ≡ fault.Memory → ⊥) → json.manifest_of bytes ≡ Err e) → IsWhy (manifest ∷ []) limits s (manifest_stop e) t
manifest_why limits s t bytes e stays is same within why = elim (manifest_told e) [
  | inl memory ↦ record { why = inl (subst (λ x. IsFault (manifest_stop x)) (sym memory) tt) }
  | inr told ↦ record {
    why = inr (inl (
      inr (
        within,
        e,
        record {
          file = (kind-file (disk_of s) manifest_spot is).1;
          fault = ap json.manifest_of (sym same) ∙ why (λ no. subst (λ x. IsTold (manifest_stop x)) no told);
        },
        told,
        refl,
      ),
      stays,
    ));
  }
]

-- Changes, and an intent

pub rows_are : (d : Disk) (m : Manifest) → HasManifest d (Some m) → rows_on d ≡ m.rows
rows_are d m has = ap rows_of has

pub no_rows : (d : Disk) → HasManifest d None → rows_on d ≡ []
no_rows d has = ap rows_of has

pub changes_why : (limits : Limits) (s t : Story) (rows : List Row) (e : ChangeError) → t ≡ s → rows_on (disk_of s) ≡ rows → IsChangeRefusal (disk_of s) rows e → IsWhy (changes ∷ []) limits s (change_stop e) t
changes_why limits s t rows (change.Blocked place) stays same why = record { why = inr (inl ((place, subst (λ l. IsChangeRefusal (disk_of s) l (change.Blocked place)) (sym same) why, refl), stays)) }
changes_why limits s t rows change.Failed stays same why = record { why = inl tt }
changes_why limits s t rows change.Memory stays same why = record { why = inl tt }

pub intent_why : (limits : Limits) (s t : Story) (e : IntentError) → t ≡ s → (e ≡ bad.BadIntent → IsNoIntent (disk_of s)) → IsWhy (intent ∷ []) limits s (intent_stop e) t
intent_why limits s t bad.BadIntent stays why = record { why = inr (inl ((refl, why refl), stays)) }
intent_why limits s t bad.Failed stays why = record { why = inl tt }
intent_why limits s t bad.Memory stays why = record { why = inl tt }
