-- A temp is taken away where it is a file.
use Rattle.std.proofs.Common.{◌≡◌, ◌≢◌, true, false, [], ◌∷◌, refl, sym, ap, ◌∙◌, inl, inr, subst, Result, OnOk, if◌then◌else◌}
use Rattle.std.specs.declared.result.Result.TheVariants.{Ok, Err}
use Rattle.tree_fs.specs.declared.name.Kind.{Kind}
use Rattle.tree_fs.specs.declared.name.Kind.TheVariants.{File, Absent, Folder, Other}
use Rattle.tree_fs.specs.declared.op.Op.TheVariants.{Unlink}
use Rattle.tree_fs.specs.declared.place.Place.{Place}
use Rattle.tree_fs.specs.declared.tree.TreeError.{TreeError}
use Rattle.tree_fs.specs.Spot.{Spot, spot_of}
use Rattle.tree_fs.specs.Disk.{Disk, none, file, IsFile, IsValid, put, kind_of}
use Rattle.tree_fs.specs.Story.{Story, disk_of, Along, with_ops}
use Rattle.tree_fs.specs.Calls.{AddsOne}
use Rattle.tree_fs.specs.Frames.{Touches, Syncs}
use Rattle.tree_fs.proofs.Disks.{now-put_at}
use Rattle.tree_fs.proofs.Frames.{same_files-trans, touches_same, along_unlink}
use Rattle.tree_fs.proofs.KindOf.{kind-file, kind-absent, absent-kind}
use Rattle.tree_fs.proofs.Moments.{along_unchanged, along_trans, along_last, along_weaken}
use Rattle.tree_fs.proofs.Stories.{AddsOne-on_ok, with_ops-none}
use Rattle.intent_journal.specs.declared.temp.Temp.{Temp}
use Rattle.intent_journal.specs.Temps.{temp_spot, IsFileOrAbsent}
use Rattle.intent_journal.specs.Sweeps.{temp_at, is_file, clear_ops}

pub file_there : (d e : Disk) (x : Spot) → e ≡ d → kind_of d x ≡ File → IsFile e x
file_there d e x same is = subst (λ (f : Disk). IsFile f x) (sym same) (kind-file d x is).1

none-no_file : (d : Disk) (x : Spot) → d.now x ≡ none → kind_of d x ≢ File
none-no_file d x gone is = let f = (kind-file d x is).1 in let t : none ≡ file f.0 = sym gone ∙ f.1 in absurd (cc)

pub gone_done : {T : Type 0} (which : Temp) (at : Place) (t u : Story) (r : Result T TreeError) → spot_of at ≡ temp_spot which → AddsOne (Unlink at) t u r → OnOk r (kind_of (disk_of u) (temp_spot which) ≢ File)
gone_done which at t u r is adds = AddsOne-on_ok (λ d. kind_of d (temp_spot which) ≢ File) (Unlink at) t u r adds
    (subst (λ x. kind_of (put (disk_of t) (spot_of at) none) x ≢ File) is (none-no_file (put (disk_of t) (spot_of at) none) (spot_of at) (now-put_at (disk_of t) (spot_of at) none)))

pub no_folder : (d : Disk) (x : Spot) → IsFileOrAbsent d x → d.folders x ≡ false
no_folder d x (inl is) = (kind-file d x is).0
no_folder d x (inr is) = (kind-absent d x is).0

pub gone_absent : {T : Type 0} (which : Temp) (at : Place) (s t u : Story) (r : Result T TreeError) → spot_of at ≡ temp_spot which → t ≡ s → AddsOne (Unlink at) t u r
    → OnOk r (IsFileOrAbsent (disk_of s) (temp_spot which) → kind_of (disk_of u) (temp_spot which) ≡ Absent)
gone_absent which at s t u r is same adds =
    let x = temp_spot which in
    let d = disk_of t in
    AddsOne-on_ok (λ e. IsFileOrAbsent (disk_of s) x → kind_of e x ≡ Absent) (Unlink at) t u r adds
    (λ way. subst (λ q. kind_of (put d q none) x ≡ Absent) (sym is)
    (absent-kind (put d x none) x (ap (λ (q : Story). (disk_of q).folders x) same ∙ no_folder (disk_of s) x way) (now-put_at d x none)))

pub still_absent : (d e : Disk) (x : Spot) → e ≡ d → kind_of d x ≢ File → IsFileOrAbsent d x → kind_of e x ≡ Absent
still_absent d e x same ne (inl is) = absurd (ne is)
still_absent d e x same ne (inr is) = ap (λ (f : Disk). kind_of f x) same ∙ is

pub no_touch : (x : Spot) (s t : Story) → IsValid (disk_of s) → t ≡ s → Along (Touches x none (disk_of s)) s t
no_touch x s t valid same = along_unchanged (Touches x none (disk_of s)) s t same (touches_same x none (disk_of s) valid)

pub touched : {T : Type 0} (x : Spot) (at : Place) (s t u : Story) (r : Result T TreeError) → IsValid (disk_of s) → spot_of at ≡ x → t ≡ s → kind_of (disk_of s) (spot_of at) ≡ File → AddsOne (Unlink at) t u r → Along (Touches x none (disk_of s)) s u
touched x at s t u r valid is same kind adds =
    subst (λ (y : Spot). Along (Touches y none (disk_of s)) s u) is
    (along_unlink at s u r valid (kind-file (disk_of s) (spot_of at) kind).1 (subst (λ q. AddsOne (Unlink at) q u r) same adds))

-- the steps, exactly

pub cleared_ops : {T : Type 0} (which : Temp) (at : Place) (s t u : Story) (r : Result T TreeError) → at ≡ temp_at which → spot_of at ≡ temp_spot which → t ≡ s → kind_of (disk_of s) (spot_of at) ≡ File → AddsOne (Unlink at) t u r
    → OnOk r (u ≡ with_ops s (clear_ops (disk_of s) which))
cleared_ops which at s t u (Ok a) place is same kind adds =
    let there : kind_of (disk_of s) (temp_spot which) ≡ File = ap (kind_of (disk_of s)) (sym is) ∙ kind in
    adds.ok ∙ (λ i. with_ops (same i) (Unlink (place i) true ∷ [])) ∙ ap (λ k. with_ops s (if is_file k then Unlink (temp_at which) true ∷ [] else [])) (sym there)
cleared_ops which at s t u (Err e) place is same kind adds = tt

no_file : (k : Kind) → k ≢ File → is_file k ≡ false
no_file File ne = absurd (ne refl)
no_file Absent ne = refl
no_file Folder ne = refl
no_file Other ne = refl

pub left_ops : (which : Temp) (s t : Story) → t ≡ s → kind_of (disk_of s) (temp_spot which) ≢ File → t ≡ with_ops s (clear_ops (disk_of s) which)
left_ops which s t same ne = same ∙ sym (with_ops-none s) ∙ ap (λ b. with_ops s (if b then Unlink (temp_at which) true ∷ [] else [])) (sym (no_file (kind_of (disk_of s) (temp_spot which)) ne))

-- syncs after it
touches_syncs : (x : Spot) (a d e : Disk) → Touches x none a d → Syncs d e → Touches x none a e
touches_syncs x a d e t s = record {
  valid = s.valid;
  files = same_files-trans a d e t.files s.files;
  own = λ v h. t.own v (s.held x v h);
  others = λ q v out h. t.others q v out (s.held q v h);
  now = λ q out. s.now q ∙ t.now q out;
}

pub touched_syncs : (x : Spot) (s t u : Story) → Along (Touches x none (disk_of s)) s t → Along (Syncs (disk_of t)) t u → Along (Touches x none (disk_of s)) s u
touched_syncs x s t u a b =
    let P = Touches x none (disk_of s) in
    let last = along_last P s t a in
    along_trans P s t u a (along_weaken (Syncs (disk_of t)) P t u (λ e h. touches_syncs x (disk_of s) (disk_of t) e last h) b)
