-- Old temps are taken away, and `keep` is settled.
use Rattle.std.proofs.Common.{◌≡◌, ◌≢◌, ◌⊎◌, true, [], ◌∷◌, ◌++◌, if◌then◌else◌, refl, sym, ap, ◌∙◌, inl, inr, subst, Result, OnOk}
use Rattle.std.specs.declared.result.Result.TheVariants.{Ok, Err}
use Rattle.rel_paths.specs.declared.control.Control.TheVariants as control
use Rattle.tree_fs.specs.declared.name.Kind.TheVariants.{Absent}
use Rattle.tree_fs.specs.declared.op.Op.TheVariants.{Unlink, SyncFolder}
use Rattle.tree_fs.specs.declared.place.Root.TheVariants.{Keep}
use Rattle.tree_fs.specs.Spot.{Spot}
use Rattle.tree_fs.specs.Disk.{Disk, Value, none, MayHold, IsValid, kind_of}
use Rattle.tree_fs.specs.Story.{Story, disk_of, Along, with_ops}
use Rattle.tree_fs.specs.Frames.{Touches, Syncs}
use Rattle.tree_fs.proofs.Frames.{same_files-trans}
use Rattle.tree_fs.proofs.KindOf.{same_kind}
use Rattle.tree_fs.proofs.Moments.{along_trans, along_last, along_weaken}
use Rattle.tree_fs.proofs.Ops.{same_files}
use Rattle.tree_fs.proofs.Spots.{same_or_other}
use Rattle.tree_fs.proofs.Stories.{with_ops-append}
use Rattle.desk_model.specs.Places.{IsTemp}
use Rattle.desk_model.proofs.Spots.{path-apart}
use Rattle.intent_journal.specs.declared.temp.Temp.{Temp}
use Rattle.intent_journal.specs.declared.temp.Temp.TheVariants.{Intent, Manifest, Profile}
use Rattle.intent_journal.specs.Temps.{temp_spot, IsFileOrAbsent}
use Rattle.intent_journal.specs.Sweeps.{Sweeps, is_file, temp_at, root_at, clear_ops, clear_all_ops, sweep_ops}
use Rattle.intent_journal.proofs.TempPlaces.{is_temp}

-- the frame

pub sweeps_same : (d : Disk) → IsValid d → Sweeps d d
sweeps_same d valid = record { valid = valid; files = same_files d; held = λ x v out h. h; now = λ x out. refl; temps = λ x v is h. inl h }

pub sweeps_trans : (a d e : Disk) → Sweeps a d → Sweeps d e → Sweeps a e
sweeps_trans a d e h k = record {
  valid = k.valid;
  files = same_files-trans a d e h.files k.files;
  held = λ x v out held. h.held x v out (k.held x v out held);
  now = λ x out. k.now x out ∙ h.now x out;
  temps = λ x v is held. elim (k.temps x v is held) [ inl old ↦ h.temps x v is old | inr gone ↦ inr gone ];
}

touches_sweep : (which : Temp) (a e : Disk) → Touches (temp_spot which) none a e → Sweeps a e
touches_sweep which a e t = record {
  valid = t.valid;
  files = t.files;
  held = λ x v out h. t.others x v (other x out) h;
  now = λ x out. t.now x (other x out);
  temps = λ x v is h. elim (same_or_other x (temp_spot which)) [
    | inl here ↦ subst (λ (y : Spot). MayHold a y v ⊎ (v ≡ none)) (sym here) (own v (subst (λ (y : Spot). MayHold e y v) here h))
    | inr apart ↦ inl (t.others x v apart h)
  ];
}
  where
    other : (x : Spot) → ¬ IsTemp x → x ≢ temp_spot which
    other x out e = out (subst IsTemp (sym e) (is_temp which))

    own : (v : Value) → MayHold e (temp_spot which) v → MayHold a (temp_spot which) v ⊎ (v ≡ none)
    own v h = elim (t.own v h) [ inl old ↦ inl old | inr new ↦ elim new [ inl n ↦ inr n | inr n ↦ inr n ] ]

syncs_sweep : (a e : Disk) → Syncs a e → Sweeps a e
syncs_sweep a e s = record { valid = s.valid; files = s.files; held = λ x v out h. s.held x v h; now = λ x out. s.now x; temps = λ x v is h. inl (s.held x v h) }

pub first_sweep : (which : Temp) (s t : Story) → Along (Touches (temp_spot which) none (disk_of s)) s t → Along (Sweeps (disk_of s)) s t
first_sweep which s t a = along_weaken (Touches (temp_spot which) none (disk_of s)) (Sweeps (disk_of s)) s t (λ e h. touches_sweep which (disk_of s) e h) a

then_sweep : (s t u : Story) → Along (Sweeps (disk_of s)) s t → Along (Sweeps (disk_of t)) t u → Along (Sweeps (disk_of s)) s u
then_sweep s t u a b =
    let P = Sweeps (disk_of s) in
    let last = along_last P s t a in
    along_trans P s t u a (along_weaken (Sweeps (disk_of t)) P t u (λ e h. sweeps_trans (disk_of s) (disk_of t) e last h) b)

pub then_clear : (which : Temp) (s t u : Story) → Along (Sweeps (disk_of s)) s t → Along (Touches (temp_spot which) none (disk_of t)) t u → Along (Sweeps (disk_of s)) s u
then_clear which s t u a b = then_sweep s t u a (first_sweep which t u b)

pub then_sync : (s t u : Story) → Along (Sweeps (disk_of s)) s t → Along (Syncs (disk_of t)) t u → Along (Sweeps (disk_of s)) s u
then_sync s t u a b = then_sweep s t u a (along_weaken (Syncs (disk_of t)) (Sweeps (disk_of t)) t u (λ e h. syncs_sweep (disk_of t) e h) b)

-- the other temps stand as they stood

intent-not_manifest : temp_spot Intent ≢ temp_spot Manifest
intent-not_manifest = path-apart control.IntentTemp control.ManifestTemp refl refl

intent-not_profile : temp_spot Intent ≢ temp_spot Profile
intent-not_profile = path-apart control.IntentTemp control.ProfileTemp refl refl

manifest-not_profile : temp_spot Manifest ≢ temp_spot Profile
manifest-not_profile = path-apart control.ManifestTemp control.ProfileTemp refl refl

other_kind : (which : Temp) (x : Spot) (s t : Story) → x ≢ temp_spot which → Along (Touches (temp_spot which) none (disk_of s)) s t → kind_of (disk_of t) x ≡ kind_of (disk_of s) x
other_kind which x s t apart a =
    let last = along_last (Touches (temp_spot which) none (disk_of s)) s t a in
    same_kind (disk_of t) (disk_of s) x (ap (λ f. f x) last.files.folders) (last.now x apart)

way_by : (d e : Disk) (x : Spot) → kind_of e x ≡ kind_of d x → IsFileOrAbsent d x → IsFileOrAbsent e x
way_by d e x same (inl is) = inl (same ∙ is)
way_by d e x same (inr is) = inr (same ∙ is)

-- three temps are taken away, one after the other
module _ (s t u v : Story) (first : Along (Touches (temp_spot Intent) none (disk_of s)) s t) (second : Along (Touches (temp_spot Manifest) none (disk_of t)) t u) (third : Along (Touches (temp_spot Profile) none (disk_of u)) u v) where
  manifest_at : kind_of (disk_of t) (temp_spot Manifest) ≡ kind_of (disk_of s) (temp_spot Manifest)
  manifest_at = other_kind Intent (temp_spot Manifest) s t (λ e. intent-not_manifest (sym e)) first

  profile_at : kind_of (disk_of u) (temp_spot Profile) ≡ kind_of (disk_of s) (temp_spot Profile)
  profile_at = other_kind Manifest (temp_spot Profile) t u (λ e. manifest-not_profile (sym e)) second ∙ other_kind Intent (temp_spot Profile) s t (λ e. intent-not_profile (sym e)) first

  pub swept_gone : ((which : Temp) → IsFileOrAbsent (disk_of s) (temp_spot which))
      → (IsFileOrAbsent (disk_of s) (temp_spot Intent) → kind_of (disk_of t) (temp_spot Intent) ≡ Absent)
      → (IsFileOrAbsent (disk_of t) (temp_spot Manifest) → kind_of (disk_of u) (temp_spot Manifest) ≡ Absent)
      → (IsFileOrAbsent (disk_of u) (temp_spot Profile) → kind_of (disk_of v) (temp_spot Profile) ≡ Absent)
      → (which : Temp) → kind_of (disk_of v) (temp_spot which) ≡ Absent
  swept_gone way one two three Intent = other_kind Profile (temp_spot Intent) u v intent-not_profile third ∙ other_kind Manifest (temp_spot Intent) t u intent-not_manifest second ∙ one (way Intent)
  swept_gone way one two three Manifest = other_kind Profile (temp_spot Manifest) u v manifest-not_profile third ∙ two (way_by (disk_of s) (disk_of t) (temp_spot Manifest) manifest_at (way Manifest))
  swept_gone way one two three Profile = three (way_by (disk_of s) (disk_of u) (temp_spot Profile) profile_at (way Profile))

  clear_same : (which : Temp) (d e : Disk) → kind_of e (temp_spot which) ≡ kind_of d (temp_spot which) → clear_ops e which ≡ clear_ops d which
  clear_same which d e same = ap (λ k. if is_file k then Unlink (temp_at which) true ∷ [] else []) same

  pub swept_ops : {T E : Type 0} (r : Result T E) → t ≡ with_ops s (clear_ops (disk_of s) Intent) → u ≡ with_ops t (clear_ops (disk_of t) Manifest) → OnOk r (v ≡ with_ops u (clear_ops (disk_of u) Profile))
      → OnOk r (v ≡ with_ops s (clear_all_ops (disk_of s)))
  swept_ops (Err e) one two three = tt
  swept_ops (Ok a) one two three =
      let d = disk_of s in
      let second_ops = clear_same Manifest d (disk_of t) manifest_at in
      let third_ops = clear_same Profile d (disk_of u) profile_at in
      let from_u : v ≡ with_ops u (clear_ops d Profile) = three ∙ ap (with_ops u) third_ops in
      let from_t : v ≡ with_ops t (clear_ops d Manifest ++ clear_ops d Profile) =
      from_u ∙ ap (λ (r : Story). with_ops r (clear_ops d Profile)) (two ∙ ap (with_ops t) second_ops) ∙ with_ops-append t (clear_ops d Manifest) (clear_ops d Profile) in
      from_t ∙ ap (λ (r : Story). with_ops r (clear_ops d Manifest ++ clear_ops d Profile)) one ∙ with_ops-append s (clear_ops d Intent) (clear_ops d Manifest ++ clear_ops d Profile)

pub on_gone : {T E : Type 0} {A B : Type 0} (r : Result T E) → (A → B) → OnOk r A → OnOk r B
on_gone (Ok a) to h = to h
on_gone (Err e) to h = tt

-- and then the sync
pub synced_gone : {T E : Type 0} (r : Result T E) (s t : Story) → ((which : Temp) → kind_of (disk_of s) (temp_spot which) ≡ Absent) → Along (Syncs (disk_of s)) s t → OnOk r ((which : Temp) → kind_of (disk_of t) (temp_spot which) ≡ Absent)
synced_gone (Ok a) s t gone syncs =
    let last = along_last (Syncs (disk_of s)) s t syncs in
    λ which. same_kind (disk_of t) (disk_of s) (temp_spot which) (ap (λ f. f (temp_spot which)) last.files.folders) (last.now (temp_spot which)) ∙ gone which
synced_gone (Err e) s t gone syncs = tt

pub synced_ops : {T E : Type 0} (r : Result T E) (s t u : Story) (d : Disk) → t ≡ with_ops s (clear_all_ops d) → OnOk r (u ≡ with_ops t (SyncFolder (root_at Keep) true ∷ [])) → OnOk r (u ≡ with_ops s (sweep_ops d))
synced_ops (Ok a) s t u d one two =
    let last = SyncFolder (root_at Keep) true ∷ [] in
    two ∙ ap (λ (r : Story). with_ops r last) one ∙ with_ops-append s (clear_all_ops d) last
synced_ops (Err e) s t u d one two = tt
