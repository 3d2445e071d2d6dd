-- A temp comes to its place.
use Rattle.std.proofs.Common.{◌≡◌, ◌≢◌, ℕ, ◌≤◌, true, false, List, refl, sym, ap, ◌∙◌, inl, inr, subst, arith, Result, OnOk}
use Rattle.std.specs.declared.result.Result.TheVariants.{Ok, Err}
use Rattle.tree_fs.specs.declared.op.Op.TheVariants.{Rename}
use Rattle.tree_fs.specs.declared.place.Place.{Place}
use Rattle.tree_fs.specs.declared.tree.TreeError.{TreeError}
use Rattle.tree_fs.specs.Spot.{Spot, spot_of}
use Rattle.tree_fs.specs.Disk.{Disk, none, file, IsFile, IsSettled, IsValid, is_one_file, put, renamed}
use Rattle.tree_fs.specs.Story.{Story, disk_of, Along}
use Rattle.tree_fs.specs.Calls.{AddsOne, CanRename}
use Rattle.tree_fs.specs.Frames.{Syncs}
use Rattle.tree_fs.proofs.Disks.{file-no_folder, MayHold-put, MayHold-put_other, now-put_other}
use Rattle.tree_fs.proofs.Fewer.{put-fewer}
use Rattle.tree_fs.proofs.KindOf.{kind-file, kind-absent, absent-kind, file-kind}
use Rattle.tree_fs.proofs.Moments.{along_adds, along_trans, along_last, along_weaken}
use Rattle.tree_fs.proofs.Ops.{is_one_file_tells, renamed-apart, now-renamed_from, MayHold-renamed, now-renamed_to, now-renamed_other, renamed-files, valid-renamed}
use Rattle.tree_fs.proofs.Stories.{disk_of-ok}
use Rattle.intent_journal.specs.declared.temp.Temp.{Temp}
use Rattle.intent_journal.specs.Temps.{temp_spot, place_spot, IsFileOrAbsent, Installs, IsWritten, IsInstalled}
use Rattle.intent_journal.proofs.TempPlaces.{is_temp, place-entry, place_root, place-not_temp, in_root}
use Rattle.desk_model.specs.Places.{IsTemp}
use Rattle.desk_model.specs.Standing.{Standing}
use Rattle.desk_model.proofs.Kept.{standing-fewer}
use Rattle.desk_model.proofs.Spots.{intent-not_temp}
use Rattle.intent_journal.proofs.OffPlaces.{temps-harmless}
use Rattle.intent_journal.proofs.StandOff.{standing_off}
use Rattle.intent_journal.proofs.Finding.{syncs_stand}
use Rattle.intent_journal.proofs.Temping.{beside_same}
use Rattle.intent_journal.proofs.Clearing.{no_folder}

pub installs_same : (which : Temp) (d : Disk) → IsValid d → Installs which d d
installs_same which d valid = record { beside = beside_same which d valid; place = λ v h. inl h }

le_of : (m n : ℕ) → n ≡ m → m ≤ n
le_of m n e = omega (arith, e)

never_soft : (d : Disk) (which : Temp) (text : List ℕ) → IsWritten which text d → (n : ℕ) → file n ≡ d.now (temp_spot which) → d.firm n ≡ false → ⊥
never_soft d which text w n same soft =
    let t : file n ≡ file w.number = same ∙ w.now in
    let e : n ≡ w.number = cc in
    let f : true ≡ false = sym w.firm ∙ ap d.firm (sym e) ∙ soft in
    absurd (cc)

-- the rename
module _ (which : Temp) (d : Disk) (text : List ℕ) (w : IsWritten which text d) where
  moved : Disk
  moved = renamed d (temp_spot which) (place_spot which)

  pub installs_renamed : IsValid (renamed d (temp_spot which) (place_spot which)) → Installs which d (renamed d (temp_spot which) (place_spot which))
  installs_renamed valid =
      let from = temp_spot which in
      let to = place_spot which in
      let same = renamed-files d from to in
      record {
        beside = record {
          valid = valid;
          folders = same.folders;
          held = λ q v p t h. elim (MayHold-renamed d from to q v h) [ inl new ↦ absurd (p new.0) | inr rest ↦ elim rest [ inl gone ↦ absurd (t gone.0) | inr old ↦ old ] ];
          now = λ q p t. now-renamed_other d from to q t p;
          files = λ n lt f. (ap (λ g. g n) same.firm ∙ f, ap (λ g. g n) same.bytes);
          fresh = le_of d.fresh (renamed d from to).fresh same.fresh;
          firm = λ firm q n h soft.
              let before : d.firm n ≡ false = sym (ap (λ g. g n) same.firm) ∙ soft in
              elim (MayHold-renamed d from to q (file n) h) [
                | inl new ↦ absurd (never_soft d which text w n new.1 before)
                | inr rest ↦ elim rest [ inl gone ↦ let t : file n ≡ none = gone.1 in absurd (cc) | inr old ↦ firm q n old before ]
              ];
        };
        place = λ v h. elim (MayHold-renamed d from to to v h) [
          | inl new ↦ inr new.1
          | inr rest ↦ elim rest [ inl gone ↦ absurd (place-not_temp which gone.0) | inr old ↦ inl old ]
        ];
      }

  -- the temp's file is not the one at its place
  apart : is_one_file (d.now (temp_spot which)) (d.now (place_spot which)) ≡ false
  apart = elim (is_one_file_tells (d.now (temp_spot which)) (d.now (place_spot which))) [
    | inl one ↦ absurd (place-not_temp which (w.alone (place_spot which) (inl (sym w.now ∙ one.2))))
    | inr two ↦ two.0
  ]

pub can_rename : (which : Temp) (d : Disk) (from to : Place) → IsValid d → spot_of from ≡ temp_spot which → spot_of to ≡ place_spot which → IsFile d (temp_spot which) → IsFileOrAbsent d (place_spot which) → CanRename d (spot_of from) (spot_of to)
can_rename which d from to valid f t is way = subst (λ x. CanRename d x (spot_of to)) (sym f) (subst (λ y. CanRename d (temp_spot which) y) (sym t) (record {
  source = is;
  target = elim way [ inl there ↦ inl (kind-file d (place_spot which) there).1 | inr gone ↦ inr (kind-absent d (place_spot which) gone).1 ];
  no_folder = no_folder d (place_spot which) way;
  in_folder = in_root d (place_root which) (place_spot which) valid (place-entry which);
}))

pub rename_stops : {T : Type 0} (which : Temp) (from to : Place) (s t : Story) (r : Result T TreeError) → IsValid (disk_of s) → spot_of from ≡ temp_spot which → spot_of to ≡ place_spot which → IsFileOrAbsent (disk_of s) (place_spot which)
    → AddsOne (Rename from to) s t r → (text : List ℕ) → IsWritten which text (disk_of s) → Along (Installs which (disk_of s)) s t
rename_stops which from to s t r valid f g way adds text w =
    let d = disk_of s in
    let here = installs_same which d valid in
    let same : renamed d (spot_of from) (spot_of to) ≡ renamed d (temp_spot which) (place_spot which) = λ i. renamed d (f i) (g i) in
    let v : IsValid (renamed d (spot_of from) (spot_of to)) = valid-renamed d from to true valid (can_rename which d from to valid f g (w.number, w.now) way) in
    along_adds (Installs which d) (Rename from to) s t r adds here
    (subst (λ (e : Disk). Installs which d e) (sym same) (installs_renamed which d text w (subst (λ (e : Disk). IsValid e) same v))) here

-- syncs after it
installs_syncs : (which : Temp) (a d e : Disk) → Installs which a d → Syncs d e → Installs which a e
installs_syncs which a d e h s = record {
  beside = record {
    valid = s.valid;
    folders = s.files.folders ∙ h.beside.folders;
    held = λ q v p t held. h.beside.held q v p t (s.held q v held);
    now = λ q p t. s.now q ∙ h.beside.now q p t;
    files = λ n lt f. let old = h.beside.files n lt f in (ap (λ g. g n) s.files.firm ∙ old.0, ap (λ g. g n) s.files.bytes ∙ old.1);
    fresh = le_trans h.beside.fresh s.files.fresh;
    firm = λ firm q n held soft. h.beside.firm firm q n (s.held q (file n) held) (sym (ap (λ g. g n) s.files.firm) ∙ soft);
  };
  place = λ v held. h.place v (s.held (place_spot which) v held);
}
  where
    le_trans : {k m n : ℕ} → k ≤ m → n ≡ m → k ≤ n
    le_trans le e = omega (arith, le, e)

pub then_syncs : (which : Temp) (s t u : Story) → Along (Installs which (disk_of s)) s t → Along (Syncs (disk_of t)) t u → Along (Installs which (disk_of s)) s u
then_syncs which s t u a b =
    let P = Installs which (disk_of s) in
    let last = along_last P s t a in
    along_trans P s t u a (along_weaken (Syncs (disk_of t)) P t u (λ e h. installs_syncs which (disk_of s) (disk_of t) e last h) b)

-- what stands then
module _ (which : Temp) (d t e : Disk) (valid : IsValid d) (moved_to : t ≡ renamed d (temp_spot which) (place_spot which)) (way : IsFileOrAbsent d (place_spot which)) (syncs : Syncs t e)
    (temp : IsSettled e (temp_spot which)) (place : IsSettled e (place_spot which)) (text : List ℕ) (w : IsWritten which text d) where
  new : Disk
  new = renamed d (temp_spot which) (place_spot which)

  e_now : (x : Spot) → e.now x ≡ (renamed d (temp_spot which) (place_spot which)).now x
  e_now x = syncs.now x ∙ ap (λ (f : Disk). f.now x) moved_to

  e_firm : (n : ℕ) → e.firm n ≡ d.firm n
  e_firm n = ap (λ g. g n) syncs.files.firm ∙ ap (λ (f : Disk). f.firm n) moved_to ∙ ap (λ g. g n) (renamed-files d (temp_spot which) (place_spot which)).firm

  e_bytes : (n : ℕ) → e.bytes n ≡ d.bytes n
  e_bytes n = ap (λ g. g n) syncs.files.bytes ∙ ap (λ (f : Disk). f.bytes n) moved_to ∙ ap (λ g. g n) (renamed-files d (temp_spot which) (place_spot which)).bytes

  e_folders : (x : Spot) → e.folders x ≡ d.folders x
  e_folders x = ap (λ g. g x) syncs.files.folders ∙ ap (λ (f : Disk). f.folders x) moved_to ∙ ap (λ g. g x) (renamed-files d (temp_spot which) (place_spot which)).folders

  at_place : e.now (place_spot which) ≡ file w.number
  at_place = e_now (place_spot which) ∙ now-renamed_to d (temp_spot which) (place_spot which) (w.number, w.now) ∙ w.now

  at_temp : e.now (temp_spot which) ≡ none
  at_temp = e_now (temp_spot which) ∙ now-renamed_from d (temp_spot which) (place_spot which) (apart which d text w)

  pub installed : IsInstalled which text e
  installed = record {
    number = w.number;
    only = λ v h. place v h ∙ at_place;
    there = file-kind e (place_spot which) (e_folders (place_spot which) ∙ no_folder d (place_spot which) way) (w.number, at_place);
    firm = e_firm w.number ∙ w.firm;
    bytes = e_bytes w.number ∙ w.bytes;
    gone = absent-kind e (temp_spot which) (e_folders (temp_spot which) ∙ file-no_folder d (temp_spot which) valid (w.number, w.now)) at_temp;
    settled = temp;
  }

-- the rename is done, then the syncs
pub install_done : {T : Type 0} (which : Temp) (from to : Place) (s t u : Story) (answer : Unit {0}) (r : Result T TreeError) → IsValid (disk_of s) → spot_of from ≡ temp_spot which → spot_of to ≡ place_spot which → IsFileOrAbsent (disk_of s) (place_spot which)
    → AddsOne {T = Unit {0}} (Rename from to) s t (Ok answer) → Along (Syncs (disk_of t)) t u → OnOk r (IsSettled (disk_of u) (temp_spot which)) → OnOk r (IsSettled (disk_of u) (place_spot which))
    → OnOk r ((text : List ℕ) → IsWritten which text (disk_of s) → IsInstalled which text (disk_of u))
install_done which from to s t u answer (Ok a) valid f g way adds syncs temp place =
    let moved : disk_of t ≡ renamed (disk_of s) (temp_spot which) (place_spot which) = disk_of-ok (Rename from to) s t answer adds ∙ (λ i. renamed (disk_of s) (f i) (g i)) in
    λ text w. installed which (disk_of s) (disk_of t) (disk_of u) valid moved way (along_last (Syncs (disk_of t)) t u syncs) temp place text w
install_done which from to s t u answer (Err e) valid f g way adds syncs temp place = tt

-- where the disk stands with the temp's file at the place besides, it stands all along
module _ (which : Temp) (d : Disk) (valid : IsValid d) (text : List ℕ) (w : IsWritten which text d) (standing : Standing (put d (place_spot which) (d.now (temp_spot which)))) where
  pub stands_before : Standing d
  stands_before = standing-fewer d (put d (place_spot which) (d.now (temp_spot which))) (put-fewer d (place_spot which) (d.now (temp_spot which))) valid standing

  other : (x : Spot) → ¬ IsTemp x → x ≢ temp_spot which
  other x out e = out (subst IsTemp (sym e) (is_temp which))

  without_temp : IsValid (put (put d (place_spot which) (d.now (temp_spot which))) (temp_spot which) none) → Standing (put (put d (place_spot which) (d.now (temp_spot which))) (temp_spot which) none)
  without_temp v =
      let p = put d (place_spot which) (d.now (temp_spot which)) in
      let at = temp_spot which in
      standing_off IsTemp temps-harmless intent-not_temp p (put p at none) standing (record {
        folders = refl;
        held = λ x u out h. MayHold-put_other p at x none u (other x out) h;
        now = λ x out. now-put_other p at none x (other x out);
        files = λ n lt f. (f, refl);
      }) v
      (λ x n h soft. elim (MayHold-put p at x none (file n) h) [ inl new ↦ let t : file n ≡ none = new.1 in absurd (cc) | inr old ↦ standing.firm x n old soft ])

  pub stands_renamed : IsValid (renamed d (temp_spot which) (place_spot which)) → Standing (renamed d (temp_spot which) (place_spot which))
  stands_renamed v =
      let is = renamed-apart d (temp_spot which) (place_spot which) (apart which d text w) in
      subst (λ (e : Disk). Standing e) (sym is) (without_temp (subst (λ (e : Disk). IsValid e) is v))

pub rename_stands : {T : Type 0} (which : Temp) (from to : Place) (s t : Story) (r : Result T TreeError) → IsValid (disk_of s) → spot_of from ≡ temp_spot which → spot_of to ≡ place_spot which → IsFileOrAbsent (disk_of s) (place_spot which)
    → AddsOne (Rename from to) s t r → (text : List ℕ) → IsWritten which text (disk_of s) → Standing (put (disk_of s) (place_spot which) ((disk_of s).now (temp_spot which))) → Along Standing s t
rename_stands which from to s t r valid f g way adds text w standing =
    let d = disk_of s in
    let here = stands_before which d valid text w standing in
    let same : renamed d (spot_of from) (spot_of to) ≡ renamed d (temp_spot which) (place_spot which) = λ i. renamed d (f i) (g i) in
    let v : IsValid (renamed d (spot_of from) (spot_of to)) = valid-renamed d from to true valid (can_rename which d from to valid f g (w.number, w.now) way) in
    along_adds Standing (Rename from to) s t r adds here
    (subst (λ (e : Disk). Standing e) (sym same) (stands_renamed which d valid text w standing (subst (λ (e : Disk). IsValid e) same v))) here

pub then_stands : (s t u : Story) → Along Standing s t → Along (Syncs (disk_of t)) t u → Along Standing s u
then_stands s t u a b = along_trans Standing s t u a (syncs_stand t u (along_last Standing s t a) b)
