-- What doesn't look at some places of `keep` is the same where only these change.
use Rattle.std.proofs.Common.{◌≡◌, ◌⊎◌, ◌↔◌, ℕ, ◌<◌, ◌&&◌, Bool, true, false, refl, sym, ap, ◌∙◌, inl, inr, subst}
use Rattle.std.specs.Prelude.{IfSome}
use Rattle.std.proofs.Math.Dec.{ltb}
use Rattle.std.proofs.lemmas.Bool.{lt-ltb, ltb-true}
use Rattle.std.specs.declared.option.Option.{Option}
use Rattle.std.specs.declared.option.Option.TheVariants.{None, Some}
use Rattle.tree_fs.specs.declared.place.Place.{Place}
use Rattle.tree_fs.specs.Spot.{Spot, spot_of}
use Rattle.tree_fs.specs.Disk.{Disk, Value, none, file, odd, MayHold, IsSettled, HoldsOnly, IsValid}
use Rattle.tree_fs.specs.Calls.{IsFolder}
use Rattle.manifest_json.specs.Manifests.{manifest_value}
use Rattle.move_plan.specs.declared.plan.SetRow.{SetRow}
use Rattle.move_plan.specs.declared.plan.Plan.{Plan}
use Rattle.move_plan.specs.Places.{IsAt, Has, IsSetTo, IsSetFrom, IsSaveTo, IsDestination, IsClear}
use Rattle.move_plan.specs.Rules.{IsFree, AvoidsControls, PassesRules}
use Rattle.move_plan.proofs.Entries.{OfEach, rule_2}
use Rattle.intent_json.specs.declared.intent.Intent.{Intent}
use Rattle.desk_model.specs.Places.{manifest_spot, profile_spot, IsControl, IsTemp, IsKeepEntry}
use Rattle.desk_model.specs.Records.{recorded_by, read_as, manifest_of, text_by, profile_text}
use Rattle.desk_model.specs.Desk.{file_or_none, view, Desk, desk_of, IsNamed, in_plain, in_found, in_staged, in_asides, SameDesk}
use Rattle.desk_model.specs.Outcome.{set_to, save_to, is_one_of, file_at, own_or, updated, updated_by, planned, outcome_by}
use Rattle.desk_model.specs.Standing.{IsSettledFile, SavesRun, SavesDone, SetStands, ClearStands, NoneStands, IntentStands}
use Rattle.desk_model.proofs.Spots.{temp-keep, manifest-not_keep, profile-not_temp}
use Rattle.desk_model.proofs.Agreeing.{Alike, No, without-agree, desk_of-alike}
use Rattle.desk_model.proofs.Lookups.{set_to-some, save_to-some}
use Rattle.desk_model.proofs.Fewer.{FirmBut, firm_file}
use Rattle.desk_model.proofs.Outcomes.{planned-alike}
use Rattle.desk_model.proofs.Named.{desk_of-firm, disk-firm, planned-firm}
use Rattle.intent_journal.specs.Forms.{FormStands}

-- some direct entries of `keep` that are control places, the profile's not among them
pub record Harmless (free : Spot → Type 0) : Type 0 where
  pub entry : (x : Spot) → free x → IsKeepEntry x
  pub control : (x : Spot) → free x → IsControl x
  pub no_profile : ¬ free profile_spot

-- nothing changes but at these places, and files that are firm stay so
pub record Off (free : Spot → Type 0) (a e : Disk) : Type 0 where
  pub folders : e.folders ≡ a.folders
  pub held : (x : Spot) (v : Value) → ¬ free x → MayHold e x v → MayHold a x v
  pub now : (x : Spot) → ¬ free x → e.now x ≡ a.now x
  pub files : (n : ℕ) → n < a.fresh → a.firm n ≡ true → (e.firm n ≡ true) × (e.bytes n ≡ a.bytes n)

at_free : (o : Option Place) (x : Spot) → IfSome o (λ p. IsFree (spot_of p)) → IsAt o x → IsFree x
at_free None x h at = absurd at
at_free (Some p) x h at = subst IsFree at h

both_true : (b c : Bool) → (b && c) ≡ true → (b ≡ true) × (c ≡ true)
both_true true c e = (refl, e)
both_true false c e = absurd (cc)

-- the files that there are, and are firm
abbrev there : Disk → Disk
there d = record d { firm = λ n. ltb n d.fresh && d.firm n }

there-firm : (d : Disk) → IsValid d → FirmBut d → FirmBut (there d)
there-firm d valid firm x n h soft = firm x n h (by_test (d.firm n) refl)
  where
    lt : ltb n d.fresh ≡ true
    lt = lt-ltb n d.fresh (valid.numbers x n h)

    by_test : (b : Bool) → d.firm n ≡ b → d.firm n ≡ false
    by_test false e = e
    by_test true e = let t : true ≡ false = sym (λ i. lt i && e i) ∙ soft in absurd (cc)

module _ (off : Spot → Type 0) (harm : Harmless off) (a e : Disk) (valid : IsValid a) (firm : FirmBut a) (b : Off off a e) where
  no_entry : (x : Spot) → ¬ IsKeepEntry x → ¬ off x
  no_entry x out is = out (harm.entry x is)

  no_free : (x : Spot) → IsFree x → ¬ off x
  no_free x free is = let c = harm.control x is in free.not_control c.0 c.1

  kept_now : (x : Spot) → IsFree x → e.now x ≡ a.now x
  kept_now x free = b.now x (no_free x free)

  bytes_kept : (x : Spot) (n : ℕ) → ¬ IsTemp x → MayHold a x (file n) → e.bytes n ≡ a.bytes n
  bytes_kept x n no_temp h = (b.files n (valid.numbers x n h) (firm_file a x n firm no_temp h)).1

  source_same : (o : Option Place) → IfSome o (λ p. IsFree (spot_of p)) → file_at e.now o ≡ file_at a.now o
  source_same None free = refl
  source_same (Some p) free = ap file_or_none (kept_now (spot_of p) free)

  updated_case : (plan : Plan) → OfEach AvoidsControls plan → (x : Spot) → ¬ IsKeepEntry x → (c : Bool) (s : Option SetRow) (f : Option (Place × Place))
      → set_to plan.sets x ≡ s → save_to plan.saves x ≡ f → updated_by e.now (e.now x) c s f ≡ updated_by a.now (a.now x) c s f
  updated_case plan free x out true s f es ef = refl
  updated_case plan free x out false (Some row) f es ef = source_same row.from (free.sets row (set_to-some plan.sets x row es).0).1
  updated_case plan free x out false None (Some s) es ef =
      let rule = free.saves s (save_to-some plan.saves x s ef).0 in
      λ i. own_or (b.now x (no_entry x out) i) (file_or_none (kept_now (spot_of s.0) rule.0 i))
  updated_case plan free x out false None None es ef = b.now x (no_entry x out)

  updated-beside : (plan : Plan) → PassesRules plan → (x : Spot) → ¬ IsKeepEntry x → updated plan e.now x ≡ updated plan a.now x
  unfolding updated
  updated-beside plan passes x out = updated_case plan (rule_2 plan passes) x out (is_one_of plan.clears x) (set_to plan.sets x) (save_to plan.saves x) refl refl

  recorded_same : (v : Value) → MayHold a manifest_spot v → recorded_by e.bytes v ≡ recorded_by a.bytes v
  recorded_same none h = refl
  recorded_same odd h = refl
  recorded_same (file n) h = ap (λ text. read_as text (manifest_value text)) (bytes_kept manifest_spot n (λ temp. manifest-not_keep (temp-keep manifest_spot temp)) h)

  manifest_same : manifest_of e ≡ manifest_of a
  manifest_same = ap (recorded_by e.bytes) (b.now manifest_spot (no_entry manifest_spot manifest-not_keep)) ∙ recorded_same (a.now manifest_spot) (inl refl)

  text_same : (v : Value) → MayHold a profile_spot v → text_by e.bytes v ≡ text_by a.bytes v
  text_same none h = refl
  text_same odd h = refl
  text_same (file n) h = ap Some (bytes_kept profile_spot n profile-not_temp h)

  profile_same : profile_text e ≡ profile_text a
  profile_same = ap (text_by e.bytes) (b.now profile_spot harm.no_profile) ∙ text_same (a.now profile_spot) (inl refl)

  pub profile_kept : IsSettled a profile_spot → IsSettled e profile_spot
  profile_kept one v h = one v (b.held profile_spot v harm.no_profile h) ∙ sym (b.now profile_spot harm.no_profile)

  same_folders : (s : Spot) → (e.folders s ≡ true) ↔ (a.folders s ≡ true)
  same_folders s = (λ h. sym (ap (λ f. f s) b.folders) ∙ h, λ h. ap (λ f. f s) b.folders ∙ h)

  alike : (o : Option Intent) → IfSome o (λ i. PassesRules i.plan) → Alike No (outcome_by e o) (outcome_by a o)
  alike None passes = desk_of-alike (view e) (view a) manifest_same
      (λ x out. without-agree e.now a.now x (λ ne. b.now x (no_entry x out)))
      (λ s users. same_folders s)
  alike (Some i) passes = planned-alike e a b.folders i.plan (λ x out. without-agree _ _ x (λ ne. updated-beside i.plan passes x out))

  profiles : (o : Option Intent) → (outcome_by e o).profile ≡ (outcome_by a o).profile
  profiles None = profile_same
  profiles (Some i) = profile_same

  names_there : (plan : Plan) (n : ℕ) → IsNamed (desk_of (planned a plan)) n → IsNamed (desk_of (planned (there a) plan)) n
  names_there plan n (in_plain p is) = in_plain p is
  names_there plan n (in_found p is) = in_found p is
  names_there plan n (in_staged p is) = in_staged p is
  names_there plan n (in_asides p is) = in_asides p is

  -- the files that an outcome names are there and firm
  named : (o : Option Intent) → IfSome o (λ i. PassesRules i.plan) → (n : ℕ) → IsNamed (outcome_by a o) n → (ltb n a.fresh && a.firm n) ≡ true
  named None passes n is = desk_of-firm (there a) (view (there a)) (disk-firm (there a) (there-firm a valid firm)) n is
  named (Some i) passes n is = desk_of-firm (there a) (planned (there a) i.plan) (planned-firm (there a) (there-firm a valid firm) i.plan passes) n (names_there i.plan n is)

  bytes_by : (o : Option Intent) (n : ℕ) → e.bytes n ≡ a.bytes n → (outcome_by e o).bytes n ≡ (outcome_by a o).bytes n
  bytes_by None n is = is
  bytes_by (Some i) n is = is

  alike_named : (k l : Desk) → Alike No k l → (n : ℕ) → IsNamed k n → IsNamed l n
  alike_named k l h n (in_plain p is) = in_plain p (ap (λ f. f p) (sym h.plain) ∙ is)
  alike_named k l h n (in_found p is) = in_found p (ap (λ f. f p) (sym h.found) ∙ is)
  alike_named k l h n (in_staged p is) = in_staged p (ap (λ f. f p) (sym h.staged) ∙ is)
  alike_named k l h n (in_asides p is) = in_asides p (ap (λ f. f p) (sym h.aside) ∙ is)

  -- an intent has the outcome that it had
  pub same-off : (o : Option Intent) → IfSome o (λ i. PassesRules i.plan) → SameDesk (outcome_by e o) (outcome_by a o)
  same-off o passes =
      let h = alike o passes in
      record {
        plain = h.plain;
        manifest = h.manifest;
        found = h.found;
        staged = h.staged;
        aside = h.aside;
        profile = profiles o;
        folders = h.folders;
        bytes = λ n is.
            let both = both_true (ltb n a.fresh) (a.firm n) (named o passes n (alike_named _ _ h n is)) in
            bytes_by o n (b.files n (ltb-true n a.fresh both.0) both.1).1;
      }

  -- and its form stands where it stood

  settled_kept : (x : Spot) → ¬ off x → IsSettled a x → IsSettled e x
  settled_kept x out one v h = one v (b.held x v out h) ∙ sym (b.now x out)

  only_kept : (x : Spot) (v : Value) → IsFree x → HoldsOnly a x v → HoldsOnly e x v
  only_kept x v free only w h = only w (b.held x w (no_free x free) h)

  file_kept : (x : Spot) → IsFree x → IsSettledFile a x → IsSettledFile e x
  file_kept x free f = record { number = f.number; only = only_kept x (file f.number) free f.only }

  folder_kept : (x : Spot) → IsFolder a x → IsFolder e x
  folder_kept x is = ap (λ f. f x) b.folders ∙ is

  pub none_kept : NoneStands a → NoneStands e
  none_kept h x out = settled_kept x (no_entry x out) (h x out)

  module _ (plan : Plan) (passes : PassesRules plan) where
    set_free : (x : Spot) → IsSetTo plan x → IsFree x
    set_free x is = subst IsFree is.here ((rule_2 plan passes).sets is.row is.listed).0

    save_free : (x : Spot) → IsSaveTo plan x → IsFree x
    save_free x is = subst IsFree is.here ((rule_2 plan passes).saves is.save is.listed).1

    clear_free : (x : Spot) → IsClear plan x → IsFree x
    clear_free x is = subst IsFree is.here ((rule_2 plan passes).clears is.place is.listed)

    folder_free : (x : Spot) → Has plan.folders x → IsFree x
    folder_free x is = subst IsFree is.here ((rule_2 plan passes).folders is.place is.listed)

    from_free : (x : Spot) → IsSetFrom plan x → IsFree x
    from_free x is = at_free is.row.from x ((rule_2 plan passes).sets is.row is.listed).1 is.here

    open_free : (x : Spot) → IsDestination plan x ⊎ IsClear plan x → IsFree x
    open_free x (inl (inl is)) = set_free x is
    open_free x (inl (inr is)) = save_free x is
    open_free x (inr is) = clear_free x is

    steps_kept : SavesRun a plan ⊎ SavesDone a plan → SavesRun e plan ⊎ SavesDone e plan
    steps_kept (inr done) = inr (λ x is. file_kept x (save_free x is) (done x is))
    steps_kept (inl run) = inl (record {
      sets = λ x is. let free = set_free x is in settled_kept x (no_free x free) (run.sets x is);
      saves = λ s listed.
          let free = (rule_2 plan passes).saves s listed in
          elim (run.saves s listed) [
            | inl done ↦ inl (file_kept (spot_of s.1) free.1 done)
            | inr begun ↦ inr (record {
              number = begun.number;
              source = only_kept (spot_of s.0) (file begun.number) free.0 begun.source;
              either = λ v h. begun.either v (b.held (spot_of s.1) v (no_free (spot_of s.1) free.1) h);
            })
          ];
    })

    set_kept : SetStands a plan → SetStands e plan
    set_kept h = record {
      sources = λ x is. file_kept x (from_free x is) (h.sources x is);
      open_places = λ x is. let free = open_free x is in record {
        not_odd = λ held. (h.open_places x is).not_odd (b.held x odd (no_free x free) held);
        no_folder = ap (λ f. f x) b.folders ∙ (h.open_places x is).no_folder;
      };
      made = λ x is. elim (h.made x is) [ inl folder ↦ inl (folder_kept x folder) | inr only ↦ inr (only_kept x none (folder_free x is) only) ];
      parents = λ x s is below. elim (h.parents x s is below) [ inl made ↦ inl made | inr folder ↦ inr (folder_kept s folder) ];
      steps = steps_kept h.steps;
      rest = λ x out out_of_keep. settled_kept x (no_entry x out_of_keep) (h.rest x out out_of_keep);
    }

    clear_kept : ClearStands a plan → ClearStands e plan
    clear_kept h = record {
      open_places = λ x is. let free = clear_free x is in record {
        not_odd = λ held. (h.open_places x is).not_odd (b.held x odd (no_free x free) held);
        no_folder = ap (λ f. f x) b.folders ∙ (h.open_places x is).no_folder;
      };
      rest = λ x out no_manifest out_of_keep. settled_kept x (no_entry x out_of_keep) (h.rest x out no_manifest out_of_keep);
    }

  pub intent_kept : (i : Intent) → IntentStands a i → IntentStands e i
  intent_kept i h = record {
    accepted = h.accepted;
    set_form = λ is. set_kept i.plan h.accepted.rules (h.set_form is);
    clear_form = λ is. clear_kept i.plan h.accepted.rules (h.clear_form is);
  }

-- a form that stands has a plan that passes
pub form_passes : (d : Disk) (o : Option Intent) → FormStands d o → IfSome o (λ i. PassesRules i.plan)
form_passes d None h = tt
form_passes d (Some i) h = h.accepted.rules
