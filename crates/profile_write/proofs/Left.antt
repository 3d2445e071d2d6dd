-- What is left of the desk while the profile is written.
use Rattle.std.proofs.Common.{◌≡◌, ◌≢◌, ◌⊎◌, ℕ, ◌<◌, ◌&&◌, Bool, true, false, List, refl, sym, ap, ◌∙◌, inl, inr, subst}
use Rattle.std.specs.declared.option.Option.TheVariants.{None, Some}
use Rattle.std.proofs.Math.Dec.{ltb}
use Rattle.std.proofs.lemmas.Bool.{lt-ltb, ltb-true}
use Rattle.rel_paths.specs.declared.control.Control.TheVariants as control
use Rattle.tree_fs.specs.declared.name.Kind.TheVariants.{Absent}
use Rattle.tree_fs.specs.Spot.{Spot}
use Rattle.tree_fs.specs.Disk.{Disk, Value, none, file, odd, MayHold, IsSettled, IsValid, Image, kind_of}
use Rattle.tree_fs.specs.Frames.{Fewer}
use Rattle.tree_fs.specs.Story.{Story, disk_of, Along}
use Rattle.tree_fs.proofs.Fewer.{fewer-same, image-fewer}
use Rattle.tree_fs.proofs.KindOf.{same_kind, kind-absent}
use Rattle.tree_fs.proofs.Moments.{along_last, along_weaken}
use Rattle.tree_fs.proofs.Spots.{same_or_other}
use Rattle.manifest_json.specs.Manifests.{manifest_value}
use Rattle.intent_json.specs.declared.intent.Intent.{Intent}
use Rattle.desk_model.specs.Places.{manifest_spot, profile_spot, intent_spot, IsKeepEntry, IsTemp}
use Rattle.desk_model.specs.Records.{recorded_by, read_as, manifest_of, text_by}
use Rattle.desk_model.specs.Desk.{view, Desk, desk, IsNamed, in_plain, in_found, in_staged, in_asides, HasBytesOf, SameDesk}
use Rattle.desk_model.specs.Edited.{Edited}
use Rattle.desk_model.specs.History.{KeepsPlain}
use Rattle.desk_model.specs.Outcome.{intent_by, outcome, outcome_now}
use Rattle.desk_model.specs.Standing.{Standing, OffAgrees}
use Rattle.desk_model.specs.Stops.{LeadsToOldOrNew}
use Rattle.desk_model.proofs.Agreeing.{Alike, No, without-agree, desk_of-alike}
use Rattle.desk_model.proofs.Fewer.{FirmBut, firm_file}
use Rattle.desk_model.proofs.Kept.{image-standing}
use Rattle.desk_model.proofs.Named.{desk_of-firm, disk-firm}
use Rattle.desk_model.proofs.Spots.{keep_control, temp-keep, path-apart, manifest-not_keep, profile-not_temp}
use Rattle.intent_journal.specs.declared.temp.Temp.{Temp}
use Rattle.intent_journal.specs.declared.temp.Temp.TheVariants.{Intent as OfIntent, Manifest, Profile}
use Rattle.intent_journal.specs.Temps.{temp_spot, IsInstalled}
use Rattle.intent_journal.proofs.TempPlaces.{temp-entry}
use Rattle.plan_exec.specs.Ending.{IsOldOr, StopsOldOrNew}
use Rattle.plan_run.specs.Quiet.{IsQuiet}
use Rattle.profile_write.specs.Written.{Written}
use Rattle.profile_write.proofs.Amid.{IsFileOf, Amid}

both_true : (b c : Bool) → (b && c) ≡ true → (b ≡ true) × (c ≡ true)
both_true true c e = (refl, e)
both_true false c e = absurd (cc)

-- the files that there are, and are firm
abbrev there : Disk → Disk
there d = record d { firm = λ n. ltb n d.fresh && d.firm n }

there-firm : (d : Disk) → IsValid d → FirmBut d → FirmBut (there d)
there-firm d valid firm x n h soft = firm x n h (by_test (d.firm n) refl)
  where
    lt : ltb n d.fresh ≡ true
    lt = lt-ltb n d.fresh (valid.numbers x n h)

    by_test : (b : Bool) → d.firm n ≡ b → d.firm n ≡ false
    by_test false e = e
    by_test true e = let t : true ≡ false = sym (λ i. lt i && e i) ∙ soft in absurd (cc)

-- the files that a desk names are there and firm
named : (a : Disk) → IsValid a → FirmBut a → (n : ℕ) → IsNamed (desk a) n → (n < a.fresh) × (a.firm n ≡ true)
named a valid firm n is =
    let both = both_true (ltb n a.fresh) (a.firm n) (desk_of-firm (there a) (view (there a)) (disk-firm (there a) (there-firm a valid firm)) n is) in
    (ltb-true n a.fresh both.0, both.1)

module _ (text : List ℕ) (a e : Disk) (quiet : IsQuiet a) (m : Amid text a e) where
  out_of_keep : (x : Spot) → ¬ IsKeepEntry x → (x ≢ profile_spot) × (x ≢ temp_spot Profile)
  out_of_keep x out = (λ is. out (subst IsKeepEntry (sym is) (keep_control control.Profile refl)), λ is. out (subst IsKeepEntry (sym is) (temp-entry Profile)))

  held_out : (x : Spot) (v : Value) → ¬ IsKeepEntry x → MayHold e x v → v ≡ a.now x
  held_out x v out h = let apart = out_of_keep x out in quiet.settled x v (m.beside.held x v apart.0 apart.1 h)

  no_value : (v : Value) → MayHold e intent_spot v → v ≡ none
  no_value v h =
      let held = m.beside.held intent_spot v (path-apart control.Intent control.Profile refl refl) (path-apart control.Intent control.ProfileTemp refl refl) h in
      quiet.settled intent_spot v held ∙ (kind-absent a intent_spot quiet.no_intent).1

  no_intent_by : (v : Value) (i : Intent) → MayHold e intent_spot v → intent_by e.bytes v ≡ Some i → ⊥
  no_intent_by v i h is = let t : None ≡ Some i = sym (ap (intent_by e.bytes) (no_value v h)) ∙ is in absurd (cc)

  pub standing : Standing e
  standing = record {
    valid = m.beside.valid;
    firm = m.beside.firm quiet.standing.firm;
    known = λ v h. inl (no_value v h);
    absent = λ h x out v held. held_out x v out held ∙ sym (held_out x (e.now x) out (inl refl));
    intents = λ i may. absurd (no_intent_by may.0 i may.1 may.2);
    one_plain = λ v w hv hw. ap (λ u. (outcome e u).plain) (no_value v hv ∙ sym (no_value w hw));
    one_outcome = λ v w i hv hw is clear. absurd (no_intent_by v i hv is);
  }

  off_agrees : OffAgrees e
  off_agrees clear other may_clear may_other phase s has = absurd (no_intent_by may_clear.0 clear may_clear.1 may_clear.2)

  module _ (d : Disk) (fewer : Fewer d e) where
    now_out : (x : Spot) → ¬ IsKeepEntry x → d.now x ≡ a.now x
    now_out x out = held_out x (d.now x) out (fewer.within x (d.now x) (inl refl))

    same_folders : d.folders ≡ a.folders
    same_folders = fewer.folders ∙ m.beside.folders

    kept : (n : ℕ) → n < a.fresh → a.firm n ≡ true → d.bytes n ≡ a.bytes n
    kept n lt firm = let k = m.beside.files n lt firm in (fewer.files n k.0).1 ∙ k.1

    kept_at : (x : Spot) (n : ℕ) → ¬ IsTemp x → a.now x ≡ file n → d.bytes n ≡ a.bytes n
    kept_at x n no_temp is =
        let h : MayHold a x (file n) = inl (sym is) in
        kept n (quiet.standing.valid.numbers x n h) (firm_file a x n quiet.standing.firm no_temp h)

    recorded_same : (v : Value) → a.now manifest_spot ≡ v → recorded_by d.bytes v ≡ recorded_by a.bytes v
    recorded_same none is = refl
    recorded_same odd is = refl
    recorded_same (file n) is = ap (λ t. read_as t (manifest_value t)) (kept_at manifest_spot n (λ temp. manifest-not_keep (temp-keep manifest_spot temp)) is)

    manifest_same : manifest_of d ≡ manifest_of a
    manifest_same = ap (recorded_by d.bytes) (now_out manifest_spot manifest-not_keep) ∙ recorded_same (a.now manifest_spot) refl

    text_same : (v : Value) → a.now profile_spot ≡ v → text_by d.bytes v ≡ text_by a.bytes v
    text_same none is = refl
    text_same odd is = refl
    text_same (file n) is = ap Some (kept_at profile_spot n profile-not_temp is)

    alike : Alike No (desk d) (desk a)
    alike = desk_of-alike (view d) (view a) manifest_same
        (λ x out. without-agree d.now a.now x (λ ne. now_out x out))
        (λ s users. (λ h. sym (ap (λ f. f s) same_folders) ∙ h, λ h. ap (λ f. f s) same_folders ∙ h))

    alike_named : (n : ℕ) → IsNamed (desk d) n → IsNamed (desk a) n
    alike_named n (in_plain p is) = in_plain p (ap (λ f. f p) (sym alike.plain) ∙ is)
    alike_named n (in_found p is) = in_found p (ap (λ f. f p) (sym alike.found) ∙ is)
    alike_named n (in_staged p is) = in_staged p (ap (λ f. f p) (sym alike.staged) ∙ is)
    alike_named n (in_asides p is) = in_asides p (ap (λ f. f p) (sym alike.aside) ∙ is)

    has_bytes : HasBytesOf (desk d) (desk a)
    has_bytes n is = let k = named a quiet.standing.valid quiet.standing.firm n (alike_named n is) in kept n k.0 k.1

    same_desk : d.now profile_spot ≡ a.now profile_spot → SameDesk (desk d) (desk a)
    same_desk is = record {
      plain = alike.plain;
      manifest = alike.manifest;
      found = alike.found;
      staged = alike.staged;
      aside = alike.aside;
      profile = ap (text_by d.bytes) is ∙ text_same (a.now profile_spot) refl;
      folders = alike.folders;
      bytes = has_bytes;
    }

    pub edited : IsFileOf text e (d.now profile_spot) → Edited a (Some text) (desk d)
    edited f = record {
      plain = alike.plain;
      manifest = alike.manifest;
      found = alike.found;
      staged = alike.staged;
      aside = alike.aside;
      profile = ap (text_by d.bytes) f.is ∙ ap Some ((fewer.files f.number f.firm).1 ∙ f.bytes);
      folders = λ s. alike.folders s (λ never. never);
      bytes = has_bytes;
    }

    either : SameDesk (desk d) (desk a) ⊎ Edited a (Some text) (desk d)
    either = elim (m.place (d.now profile_spot) (fewer.within profile_spot (d.now profile_spot) (inl refl))) [
      | inl is ↦ inl (same_desk is)
      | inr f ↦ inr (edited f)
    ]

    to_desk : outcome_now d ≡ desk d
    to_desk = ap (outcome d) (no_value (d.now intent_spot) (fewer.within intent_spot (d.now intent_spot) (inl refl)))

    pub old_or_new : IsOldOr a (Edited a (Some text)) (outcome_now d)
    old_or_new = subst (λ (k : Desk). SameDesk k (desk a) ⊎ Edited a (Some text) k) (sym to_desk) either

    plain_same : (outcome_now d).plain ≡ (desk a).plain
    plain_same = elim old_or_new [ inl same ↦ same.plain | inr new ↦ new.plain ]

  pub image_leads : (left : Disk) → Image e left → LeadsToOldOrNew a (Edited a (Some text)) left
  image_leads left image = record {
    standing = image-standing e left standing image;
    one_of = old_or_new left (image-fewer e left m.beside.valid image);
  }

  pub keeps_plain : KeepsPlain a e
  keeps_plain = record {
    invariant = record { standing = standing; off = off_agrees };
    plain = plain_same e (fewer-same e) ∙ sym (ap (λ u. (outcome a u).plain) (kind-absent a intent_spot quiet.no_intent).1);
  }

  pub leads_now : IsOldOr a (Edited a (Some text)) (outcome_now e)
  leads_now = old_or_new e (fewer-same e)

  module _ (i : IsInstalled Profile text e) where
    installed : IsFileOf text e (e.now profile_spot)
    installed = record { number = i.number; is = i.only (e.now profile_spot) (inl refl); firm = i.firm; bytes = i.bytes }

    settled : (x : Spot) → IsSettled e x
    settled x v h = elim (same_or_other x profile_spot) [
      | inl is ↦ subst (λ (y : Spot). MayHold e y v → v ≡ e.now y) (sym is) (λ held. i.only v held ∙ sym (i.only (e.now profile_spot) (inl refl))) h
      | inr ne ↦ elim (same_or_other x (temp_spot Profile)) [
        | inl is ↦ subst (λ (y : Spot). MayHold e y v → v ≡ e.now y) (sym is) (i.settled v) h
        | inr other ↦ quiet.settled x v (m.beside.held x v ne other h) ∙ sym (m.beside.now x ne other)
      ]
    ]

    same_there : (x : Spot) → x ≢ profile_spot → x ≢ temp_spot Profile → kind_of e x ≡ kind_of a x
    same_there x ne other = same_kind e a x (ap (λ f. f x) m.beside.folders) (m.beside.now x ne other)

    no_temps : (which : Temp) → kind_of e (temp_spot which) ≡ Absent
    no_temps OfIntent = same_there (temp_spot OfIntent) (path-apart control.IntentTemp control.Profile refl refl) (path-apart control.IntentTemp control.ProfileTemp refl refl) ∙ quiet.no_temps OfIntent
    no_temps Manifest = same_there (temp_spot Manifest) (path-apart control.ManifestTemp control.Profile refl refl) (path-apart control.ManifestTemp control.ProfileTemp refl refl) ∙ quiet.no_temps Manifest
    no_temps Profile = i.gone

    pub written : Written text a e
    written = record {
      desk = edited e (fewer-same e) installed;
      quiet = record {
        standing = standing;
        settled = settled;
        no_intent = same_there intent_spot (path-apart control.Intent control.Profile refl refl) (path-apart control.Intent control.ProfileTemp refl refl) ∙ quiet.no_intent;
        no_temps = no_temps;
      };
    }

-- the same along the steps

module _ (text : List ℕ) (s t : Story) (quiet : IsQuiet (disk_of s)) (a : Along (Amid text (disk_of s)) s t) where
  pub stops_amid : StopsOldOrNew (Edited (disk_of s) (Some text)) s t
  stops_amid =
      let Stops : Disk → Type 0 = λ d. (left : Disk) → Image d left → LeadsToOldOrNew (disk_of s) (Edited (disk_of s) (Some text)) left in
      let each = along_weaken (Amid text (disk_of s)) Stops s t (λ e m. image_leads text (disk_of s) e quiet m) a in
      record { ops = each.ops; goes_on = each.goes_on; each = each.each }

  pub keeps_amid : Along (KeepsPlain (disk_of s)) s t
  keeps_amid = along_weaken (Amid text (disk_of s)) (KeepsPlain (disk_of s)) s t (λ e m. keeps_plain text (disk_of s) e quiet m) a

  pub leaves_amid : IsOldOr (disk_of s) (Edited (disk_of s) (Some text)) (outcome_now (disk_of t))
  leaves_amid = leads_now text (disk_of s) (disk_of t) quiet (along_last (Amid text (disk_of s)) s t a)
