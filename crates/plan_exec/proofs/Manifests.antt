-- The manifest comes to its place.
use Rattle.std.proofs.Common.{◌≡◌, ◌≢◌, ◌⊎◌, ℕ, List, refl, sym, ap, ◌∙◌, inl, inr, subst, arith, Result, OnOk}
use Rattle.std.specs.Prelude.{IfSome}
use Rattle.std.specs.declared.option.Option.{Option}
use Rattle.std.specs.declared.option.Option.TheVariants.{None, Some}
use Rattle.std.specs.declared.result.Result.TheVariants.{Ok, Err}
use Rattle.tree_fs.specs.declared.name.Kind.TheVariants.{Absent}
use Rattle.tree_fs.specs.declared.op.Op.TheVariants.{SyncFolder}
use Rattle.tree_fs.specs.declared.place.Root.TheVariants.{Game, Keep}
use Rattle.tree_fs.specs.declared.place.Place.{Place}
use Rattle.tree_fs.specs.declared.tree.TreeError.{TreeError}
use Rattle.tree_fs.specs.Spot.{Spot, spot_of, root_spot}
use Rattle.tree_fs.specs.Disk.{Disk, none, file, MayHold, HoldsOnly, IsValid, IsFile, kind_of}
use Rattle.tree_fs.specs.Story.{Story, disk_of, Along}
use Rattle.tree_fs.specs.Calls.{AddsOne}
use Rattle.tree_fs.specs.Frames.{Touches, Syncs, EntriesSettled}
use Rattle.tree_fs.proofs.Frames.{along_sync, along_syncs, synced-settled}
use Rattle.tree_fs.proofs.KindOf.{same_kind}
use Rattle.tree_fs.proofs.Moments.{along_last, along_trans, along_weaken}
use Rattle.tree_fs.proofs.Spots.{same_or_other}
use Rattle.tree_fs.proofs.Stories.{AddsOne-on_ok}
use Rattle.manifest_json.specs.declared.manifest.Manifest.{Manifest}
use Rattle.manifest_json.specs.Manifests.{manifest_value}
use Rattle.move_plan.specs.declared.plan.Plan.{Plan}
use Rattle.desk_model.specs.Places.{manifest_spot}
use Rattle.desk_model.specs.Records.{recorded_by, read_as}
use Rattle.desk_model.specs.Outcome.{recorded_or_none}
use Rattle.intent_journal.specs.declared.temp.Temp.{Temp}
use Rattle.intent_journal.specs.declared.temp.Temp.TheVariants as temp
use Rattle.intent_journal.specs.Temps.{temp_spot, place_spot, IsFileOrAbsent, Beside, Temped, Installs, IsWritten, IsInstalled}
use Rattle.intent_journal.proofs.TempPlaces.{temp-entry, place-entry, place-not_temp}
use Rattle.intent_journal.proofs.Temping.{beside_trans}
use Rattle.plan_exec.specs.declared.error.ExecError.{ExecError}
use Rattle.plan_exec.specs.Causes.{Tells, place_by, clear_obstacle, IsFault}
use Rattle.plan_exec.specs.Ending.{ManifestDone}
use Rattle.plan_exec.proofs.Obstacles.{tells_none}

-- What is done at the place is beside the rest

touches_beside : (which : Temp) (a e : Disk) → Touches (place_spot which) none a e → Beside which a e
touches_beside which a e t = record {
  valid = t.valid;
  folders = t.files.folders;
  held = λ x v p other h. t.others x v p h;
  now = λ x p other. t.now x p;
  files = λ n lt f. (ap (λ g. g n) t.files.firm ∙ f, ap (λ g. g n) t.files.bytes);
  fresh = let same = t.files.fresh in omega arith;
  firm = λ f x n h soft. f x n (before x n h (same_or_other x (place_spot which))) (sym (ap (λ g. g n) t.files.firm) ∙ soft);
}
  where
    before : (x : Spot) (n : ℕ) → MayHold e x (file n) → (x ≡ place_spot which) ⊎ (x ≢ place_spot which) → MayHold a x (file n)
    before x n h (inr ne) = t.others x (file n) ne h
    before x n h (inl is) = elim (t.own (file n) (subst (λ y. MayHold e y (file n)) is h)) [
      | inl old ↦ subst (λ y. MayHold a y (file n)) (sym is) old
      | inr new ↦ elim new [ inl gone ↦ absurd (cc) | inr gone ↦ absurd (cc) ]
    ]

syncs_beside : (which : Temp) (a e : Disk) → Syncs a e → Beside which a e
syncs_beside which a e s = record {
  valid = s.valid;
  folders = s.files.folders;
  held = λ x v p other h. s.held x v h;
  now = λ x p other. s.now x;
  files = λ n lt f. (ap (λ g. g n) s.files.firm ∙ f, ap (λ g. g n) s.files.bytes);
  fresh = let same = s.files.fresh in omega arith;
  firm = λ f x n h soft. f x n (s.held x (file n) h) (sym (ap (λ g. g n) s.files.firm) ∙ soft);
}

abbrev M : Temp
M = temp.Manifest

pub temps_beside : (s t : Story) → Along (Temped temp.Manifest (disk_of s)) s t → Along (Beside temp.Manifest (disk_of s)) s t
temps_beside s t a = along_weaken (Temped M (disk_of s)) (Beside M (disk_of s)) s t (λ e h. h.beside) a

beside_then : (s t u : Story) → Along (Beside temp.Manifest (disk_of s)) s t → Along (Beside temp.Manifest (disk_of t)) t u → Along (Beside temp.Manifest (disk_of s)) s u
beside_then s t u a b =
    let P = Beside M (disk_of s) in
    let last = along_last P s t a in
    along_trans P s t u a (along_weaken (Beside M (disk_of t)) P t u (λ e h. beside_trans M (disk_of s) (disk_of t) e last h) b)

pub then_installs : (which : Temp) → which ≡ temp.Manifest → (s t u : Story) → Along (Temped temp.Manifest (disk_of s)) s t → Along (Installs which (disk_of t)) t u → Along (Beside temp.Manifest (disk_of s)) s u
then_installs which is s t u a b =
    beside_then s t u (temps_beside s t a) (along_weaken (Installs M (disk_of t)) (Beside M (disk_of t)) t u (λ e h. h.beside) (subst (λ w. Along (Installs w (disk_of t)) t u) is b))

pub then_temped : (s t u : Story) → Along (Beside temp.Manifest (disk_of s)) s t → Along (Temped temp.Manifest (disk_of t)) t u → Along (Beside temp.Manifest (disk_of s)) s u
then_temped s t u a b = beside_then s t u a (temps_beside t u b)

-- the place is as it was
pub place_kept : (which : Temp) → which ≡ temp.Manifest → (a d : Disk) → Temped temp.Manifest a d → IsFileOrAbsent a manifest_spot → IsFileOrAbsent d (place_spot which)
place_kept which is a d h way =
    let k = same_kind d a manifest_spot (ap (λ f. f manifest_spot) h.beside.folders) h.still in
    subst (λ w. IsFileOrAbsent d (place_spot w)) (sym is) (elim way [ inl is_file ↦ inl (k ∙ is_file) | inr gone ↦ inr (k ∙ gone) ])

pub written_file : (which : Temp) → which ≡ temp.Manifest → (text : List ℕ) (d : Disk) → IsWritten temp.Manifest text d → IsFile d (temp_spot which)
written_file which is text d w = subst (λ u. IsFile d (temp_spot u)) (sym is) (w.number, w.now)

pub written_as : (which : Temp) → which ≡ temp.Manifest → (text : List ℕ) (d : Disk) → IsWritten temp.Manifest text d → IsWritten which text d
written_as which is text d w = subst (λ u. IsWritten u text d) (sym is) w

pub installed_as : {T E : Type 0} (which : Temp) → which ≡ temp.Manifest → (text : List ℕ) (a d : Disk) (r : Result T E) → IsWritten temp.Manifest text a → OnOk r ((x : List ℕ) → IsWritten which x a → IsInstalled which x d) → OnOk r (IsInstalled temp.Manifest text d)
installed_as which is text a d (Ok v) w h = subst (λ u. IsInstalled u text d) is (h text (written_as which is text a w))
installed_as which is text a d (Err e) w h = tt

pub held_temp : (o : Option Temp) (which : Temp) → which ≡ temp.Manifest → o ≡ Some which → IfSome o (λ t. t ≡ temp.Manifest)
held_temp o which is has = subst (λ p. IfSome p (λ t. t ≡ temp.Manifest)) (sym has) is

-- The manifest goes

pub touched : (at : Spot) (s t : Story) → at ≡ manifest_spot → Along (Touches at none (disk_of s)) s t → Along (Beside temp.Manifest (disk_of s)) s t
touched at s t is a =
    along_weaken (Touches manifest_spot none (disk_of s)) (Beside M (disk_of s)) s t (λ e h. touches_beside M (disk_of s) e h) (subst (λ x. Along (Touches x none (disk_of s)) s t) is a)

pub touched_synced : (at : Spot) (s t u : Story) → at ≡ manifest_spot → Along (Touches at none (disk_of s)) s t → Along (Syncs (disk_of t)) t u → Along (Beside temp.Manifest (disk_of s)) s u
touched_synced at s t u is a b =
    beside_then s t u (touched at s t is a) (along_weaken (Syncs (disk_of t)) (Beside M (disk_of t)) t u (λ e h. syncs_beside M (disk_of t) e h) b)

pub gone_done : (at : Spot) (t u : Story) → at ≡ manifest_spot → (disk_of t).now at ≡ none → Along (Syncs (disk_of t)) t u → EntriesSettled (disk_of u) (root_spot Game) → HoldsOnly (disk_of u) manifest_spot none
gone_done at t u is gone b settled = λ w h.
    settled manifest_spot (place-entry temp.Manifest) w h ∙ (along_last (Syncs (disk_of t)) t u b).now manifest_spot ∙ subst (λ x. (disk_of t).now x ≡ none) is gone

pub temp_still : (at : Spot) (s t u : Story) → at ≡ manifest_spot → Along (Touches at none (disk_of s)) s t → Along (Syncs (disk_of t)) t u
    → kind_of (disk_of s) (temp_spot temp.Manifest) ≡ Absent → kind_of (disk_of u) (temp_spot temp.Manifest) ≡ Absent
temp_still at s t u is a b absent =
    let x = temp_spot M in
    let h = along_last (Touches at none (disk_of s)) s t a in
    let k = along_last (Syncs (disk_of t)) t u b in
    let apart : temp_spot M ≢ at = λ e. place-not_temp M (sym (e ∙ is)) in
    same_kind (disk_of u) (disk_of s) x (ap (λ f. f x) (k.files.folders ∙ h.files.folders)) (k.now x ∙ h.now x apart) ∙ absent

pub open_fault : (d : Disk) (at : Place) (e : ExecError) → spot_of at ≡ manifest_spot → IsFileOrAbsent d manifest_spot → Tells (clear_obstacle d at) e → IsFault e
open_fault d at e is way told = tells_none e (subst (λ o. Tells o e) (free (subst (λ x. IsFileOrAbsent d x) (sym is) way)) told)
  where
    free : IsFileOrAbsent d (spot_of at) → clear_obstacle d at ≡ None
    free (inl is_file) = ap (λ k. place_by k (spot_of at)) is_file
    free (inr gone) = ap (λ k. place_by k (spot_of at)) gone

-- both roots

pub sync_at : {T : Type 0} (at : Place) (s t : Story) (r : Result T TreeError) → IsValid (disk_of s) → AddsOne (SyncFolder at) s t r → Along (Syncs (disk_of s)) s t
sync_at at s t r valid adds = along_sync at s t r valid adds

pub sync_two : {T : Type 0} (x y : Place) (s t u : Story) (answer : Unit {0}) (r : Result T TreeError) → IsValid (disk_of s) → IsValid (disk_of t) → AddsOne {T = Unit {0}} (SyncFolder x) s t (Ok answer) → AddsOne (SyncFolder y) t u r → Along (Syncs (disk_of s)) s u
sync_two x y s t u answer r valid after a b = along_syncs s t u (along_sync x s t (Ok answer) valid a) (along_sync y t u r after b)

pub first_settled : {T : Type 0} (x y : Place) (s t u : Story) (answer : Unit {0}) (r : Result T TreeError) → IsValid (disk_of t) → AddsOne {T = Unit {0}} (SyncFolder x) s t (Ok answer) → AddsOne (SyncFolder y) t u r → OnOk r (EntriesSettled (disk_of u) (spot_of x))
first_settled x y s t u answer (Err e) after a b = tt
first_settled x y s t u answer (Ok v) after a b =
    let one : EntriesSettled (disk_of t) (spot_of x) = AddsOne-on_ok (λ d. EntriesSettled d (spot_of x)) (SyncFolder x) s t (Ok answer) a (synced-settled (disk_of s) (spot_of x)) in
    let last = along_last (Syncs (disk_of t)) t u (along_sync y t u (Ok v) after b) in
    λ z entry w h. one z entry w (last.held z w h) ∙ sym (last.now z)

pub second_settled : {T : Type 0} (y : Place) (t u : Story) (r : Result T TreeError) → AddsOne (SyncFolder y) t u r → OnOk r (EntriesSettled (disk_of u) (spot_of y))
second_settled y t u r b = AddsOne-on_ok (λ d. EntriesSettled d (spot_of y)) (SyncFolder y) t u r b (synced-settled (disk_of t) (spot_of y))

-- what is left

pub installed_done : {T E : Type 0} (plan : Plan) (m : Manifest) (text : List ℕ) (d : Disk) (r : Result T E) → plan.manifest ≡ Some m → manifest_value text ≡ Some m → OnOk r (IsInstalled temp.Manifest text d) → OnOk r (ManifestDone plan d)
installed_done plan m text d (Err e) has reads h = tt
installed_done plan m text d (Ok v) has reads h =
    let now : d.now manifest_spot ≡ file h.number = h.only (d.now manifest_spot) (inl refl) in
    record {
      is = ap (recorded_by d.bytes) now ∙ ap (λ b. read_as b (manifest_value b)) h.bytes ∙ ap (read_as text) reads ∙ ap recorded_or_none (sym has);
      settled = λ w held. h.only w held ∙ sym now;
      gone = h.gone;
      temp_settled = h.settled;
    }

pub removed_done : {T E : Type 0} (plan : Plan) (d : Disk) (r : Result T E) → plan.manifest ≡ None → OnOk r (HoldsOnly d manifest_spot none) → OnOk r (kind_of d (temp_spot temp.Manifest) ≡ Absent) → OnOk r (EntriesSettled d (root_spot Keep)) → OnOk r (ManifestDone plan d)
removed_done plan d (Err e) has only gone keep = tt
removed_done plan d (Ok v) has only gone keep =
    let now : d.now manifest_spot ≡ none = only (d.now manifest_spot) (inl refl) in
    record {
      is = ap (recorded_by d.bytes) now ∙ ap recorded_or_none (sym has);
      settled = λ w held. only w held ∙ sym now;
      gone = gone;
      temp_settled = λ w held. keep (temp_spot temp.Manifest) (temp-entry temp.Manifest) w held;
    }

pub installed_here : (which : Temp) → which ≡ temp.Manifest → (text : List ℕ) (a d : Disk) → IsWritten temp.Manifest text a → ((x : List ℕ) → IsWritten which x a → IsInstalled which x d) → IsInstalled temp.Manifest text d
installed_here which is text a d w h = subst (λ u. IsInstalled u text d) is (h text (written_as which is text a w))
