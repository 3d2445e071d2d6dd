-- What is done at a temp.
use Rattle.std.proofs.Common.{◌≡◌, ℕ, ◌+◌, ◌<◌, ◌≤◌, Bool, true, false, List, [], refl, sym, ap, ◌∙◌, inl, inr, subst, arith, Result, OnOk}
use Rattle.std.specs.declared.result.Result.TheVariants.{Ok}
use Rattle.tree_fs.specs.declared.op.Op.TheVariants.{Create, Fill, SyncFile}
use Rattle.tree_fs.specs.declared.place.Place.{Place}
use Rattle.tree_fs.specs.declared.place.Root.TheVariants.{Keep}
use Rattle.tree_fs.specs.declared.tree.TreeError.{TreeError}
use Rattle.tree_fs.specs.Spot.{Spot, spot_of}
use Rattle.tree_fs.specs.Disk.{Disk, Value, none, file, MayHold, IsFile, IsValid, made_firm, after}
use Rattle.tree_fs.specs.Story.{Story, disk_of, Along}
use Rattle.tree_fs.specs.Calls.{AddsOne, AddsNew, CanPut}
use Rattle.tree_fs.proofs.Files.{made_firm-places, made_firm-file, firm-made, firm-made_keeps, bytes-made_firm, same_places-hold, valid-file_synced}
use Rattle.tree_fs.specs.Frames.{Touches}
use Rattle.tree_fs.proofs.Spots.{same_or_other}
use Rattle.intent_journal.proofs.Clearing.{no_folder}
use Rattle.tree_fs.proofs.Moments.{along_adds, along_new, along_trans, along_last, along_weaken}
use Rattle.tree_fs.proofs.NewFiles.{IsNewFile, new_file, valid-new_file, new_file-ok}
use Rattle.tree_fs.proofs.Ops.{now-created, now-created_other, MayHold-created, bytes-created, bytes-created_other, firm-created, firm-created_other, valid-created}
use Rattle.tree_fs.proofs.Stories.{AddsOne-on_ok}
use Rattle.desk_model.specs.Places.{IsTemp}
use Rattle.intent_journal.specs.declared.temp.Temp.{Temp}
use Rattle.intent_journal.specs.Temps.{temp_spot, place_spot, IsFileOrAbsent, Beside, Temped, IsWritten}
use Rattle.intent_journal.proofs.TempPlaces.{is_temp, temp-entry, place-not_temp, in_root}

pub beside_same : (which : Temp) (d : Disk) → IsValid d → Beside which d d
beside_same which d valid = record { valid = valid; folders = refl; held = λ x v p t h. h; now = λ x p t. refl; files = λ n lt f. (f, refl); fresh = omega arith; firm = λ f. f }

pub beside_trans : (which : Temp) (a d e : Disk) → Beside which a d → Beside which d e → Beside which a e
beside_trans which a d e h k = record {
  valid = k.valid;
  folders = k.folders ∙ h.folders;
  held = λ x v p t held. h.held x v p t (k.held x v p t held);
  now = λ x p t. k.now x p t ∙ h.now x p t;
  files = λ n lt f. let first = h.files n lt f in let then = k.files n (more n lt) first.0 in (then.0, then.1 ∙ first.1);
  fresh = let x = h.fresh in let y = k.fresh in omega arith;
  firm = λ f. k.firm (h.firm f);
}
  where
    more : (n : ℕ) → n < a.fresh → n < d.fresh
    more n lt = let x = h.fresh in omega arith

pub temped_same : (which : Temp) (d : Disk) → IsValid d → Temped which d d
temped_same which d valid = record { beside = beside_same which d valid; place = λ v h. h; still = refl }

pub temped_trans : (which : Temp) (a d e : Disk) → Temped which a d → Temped which d e → Temped which a e
temped_trans which a d e h k = record { beside = beside_trans which a d e h.beside k.beside; place = λ v held. h.place v (k.place v held); still = k.still ∙ h.still }

-- the temp is touched
temped_touched : (which : Temp) (a e : Disk) → Touches (temp_spot which) none a e → Temped which a e
temped_touched which a e t = record {
  beside = record {
    valid = t.valid;
    folders = t.files.folders;
    held = λ q v p out h. t.others q v out h;
    now = λ q p out. t.now q out;
    files = λ n lt f. (ap (λ g. g n) t.files.firm ∙ f, ap (λ g. g n) t.files.bytes);
    fresh = subst (λ n. a.fresh ≤ n) (sym t.files.fresh) (omega arith);
    firm = λ firm q n h soft.
        let before : a.firm n ≡ false = sym (ap (λ g. g n) t.files.firm) ∙ soft in
        elim (same_or_other q (temp_spot which)) [
          | inl here ↦ subst IsTemp (sym here) (is_temp which)
          | inr other ↦ firm q n (t.others q (file n) other h) before
        ];
  };
  place = λ v h. t.others (place_spot which) v (place-not_temp which) h;
  still = t.now (place_spot which) (place-not_temp which);
}

pub along_touched : (which : Temp) (s t : Story) → Along (Touches (temp_spot which) none (disk_of s)) s t → Along (Temped which (disk_of s)) s t
along_touched which s t a = along_weaken (Touches (temp_spot which) none (disk_of s)) (Temped which (disk_of s)) s t (λ e h. temped_touched which (disk_of s) e h) a

le_of : (m n : ℕ) → n ≡ m + 1 → m ≤ n
le_of m n e = omega (arith, e)

-- a new file stands at the temp
pub temped_new : (which : Temp) (d e : Disk) (given : List ℕ) → IsValid d → IsValid e → IsNewFile d e (temp_spot which) given → Temped which d e
temped_new which d e given valid after new = record {
  beside = record {
    valid = after;
    folders = new.folders;
    held = λ q v p t h. elim (new.held q v h) [ inl made ↦ absurd (t made.0) | inr old ↦ old ];
    now = λ q p t. new.others q t;
    files = λ n lt f. (new.other_firm n lt ∙ f, new.other_bytes n lt);
    fresh = le_of d.fresh e.fresh new.fresh;
    firm = λ firm q n h soft. elim (new.held q (file n) h) [
      | inl made ↦ subst IsTemp (sym made.0) (is_temp which)
      | inr old ↦ firm q n old (sym (new.other_firm n (valid.numbers q n old)) ∙ soft)
    ];
  };
  place = λ v h. elim (new.held (place_spot which) v h) [ inl made ↦ absurd (place-not_temp which made.0) | inr old ↦ old ];
  still = new.others (place_spot which) (place-not_temp which);
}

-- a file without bytes is new
created-new : (d : Disk) (at : Place) → IsNewFile d (after d (Create at true)) (spot_of at) []
created-new d at = record {
  now = now-created d at;
  others = λ q ne. now-created_other d at q ne;
  held = λ q v h. MayHold-created d at q v h;
  folders = refl;
  bytes = bytes-created d at;
  other_bytes = λ n lt. bytes-created_other d at n lt;
  soft = firm-created d at;
  other_firm = λ n lt. firm-created_other d at n lt;
  fresh = refl;
}

-- a file is made firm
pub temped_firm : (which : Temp) (d : Disk) (at : Place) → IsValid d → Temped which d (after d (SyncFile at true))
temped_firm which d at valid =
    let v = d.now (spot_of at) in
    let same = made_firm-places d v in
    record {
      beside = record {
        valid = valid-file_synced d at true valid;
        folders = same.folders;
        held = λ q w p t h. same_places-hold d (made_firm d v) q w same h;
        now = λ q p t. ap (λ f. f q) same.now;
        files = λ n lt f. (firm-made_keeps d v n f, ap (λ b. b n) (bytes-made_firm d v));
        fresh = le same.fresh;
        firm = λ firm q n h soft. firm q n (same_places-hold d (made_firm d v) q (file n) same h) (soft_before v n soft);
      };
      place = λ w h. same_places-hold d (made_firm d v) (place_spot which) w same h;
      still = ap (λ f. f (place_spot which)) same.now;
    }
  where
    le : {m n : ℕ} → m ≡ n → n ≤ m
    le e = omega (arith, e)

    soft_before : (v : Value) (n : ℕ) → (made_firm d v).firm n ≡ false → d.firm n ≡ false
    soft_before v n soft = by_test (d.firm n) refl
      where
        by_test : (b : Bool) → d.firm n ≡ b → d.firm n ≡ false
        by_test false e = e
        by_test true e = let t : true ≡ false = sym (firm-made_keeps d v n e) ∙ soft in absurd (cc)

-- the calls

pub then_temped : (which : Temp) (s t u : Story) → Along (Temped which (disk_of s)) s t → Along (Temped which (disk_of t)) t u → Along (Temped which (disk_of s)) s u
then_temped which s t u a b =
    let P = Temped which (disk_of s) in
    let last = along_last P s t a in
    along_trans P s t u a (along_weaken (Temped which (disk_of t)) P t u (λ e h. temped_trans which (disk_of s) (disk_of t) e last h) b)

-- the temp may be put
pub can_put : (which : Temp) (d : Disk) (at : Place) → IsValid d → spot_of at ≡ temp_spot which → d.now (temp_spot which) ≡ none → IsFileOrAbsent d (temp_spot which) → CanPut d (spot_of at)
can_put which d at valid is gone way = subst (CanPut d) (sym is) (record {
  absent = gone;
  no_folder = no_folder d (temp_spot which) way;
  in_folder = in_root d Keep (temp_spot which) valid (temp-entry which);
})

pub put_stops : {T : Type 0} (which : Temp) (at : Place) (text : List ℕ) (s t : Story) (r : Result T TreeError) → IsValid (disk_of s) → spot_of at ≡ temp_spot which → CanPut (disk_of s) (spot_of at) → AddsNew at text s t r → Along (Temped which (disk_of s)) s t
put_stops which at text s t r valid is can adds =
    let d = disk_of s in
    along_new (Temped which d) at text s t r adds (temped_same which d valid)
    (temped_new which d (after d (Create at true)) [] valid (valid-created d at true valid can) (subst (λ x. IsNewFile d (after d (Create at true)) x []) is (created-new d at)))
    (λ front rest parts. temped_new which d (after (after d (Create at true)) (Fill at front true)) front valid (valid-new_file d at front valid can) (subst (λ x. IsNewFile d (after (after d (Create at true)) (Fill at front true)) x front) is (new_file d at front)))

pub sync_stops : {T : Type 0} (which : Temp) (at : Place) (s t u : Story) (r : Result T TreeError) → Along (Temped which (disk_of s)) s t → AddsOne (SyncFile at) t u r → Along (Temped which (disk_of s)) s u
sync_stops which at s t u r a adds =
    let last = along_last (Temped which (disk_of s)) s t a in
    let here = temped_same which (disk_of t) last.beside.valid in
    then_temped which s t u a (along_adds (Temped which (disk_of t)) (SyncFile at) t u r adds here (temped_firm which (disk_of t) at last.beside.valid) here)

pub new_file_there : (which : Temp) (at : Place) (text : List ℕ) (s t : Story) (answer : Unit {0}) → AddsNew {T = Unit {0}} at text s t (Ok answer) → IsFile (disk_of t) (spot_of at)
new_file_there which at text s t answer new = ((disk_of s).fresh, (new_file-ok at text s t answer new).now)

-- the file that was put, made firm
pub written : {T : Type 0} (which : Temp) (at : Place) (text : List ℕ) (s t u : Story) (r : Result T TreeError) (answer : Unit {0}) → IsValid (disk_of s) → spot_of at ≡ temp_spot which
    → AddsNew {T = Unit {0}} at text s t (Ok answer) → AddsOne (SyncFile at) t u r → OnOk r (IsWritten which text (disk_of u))
written which at text s t u r answer valid is new adds = AddsOne-on_ok (IsWritten which text) (SyncFile at) t u r adds (subst (λ (d : Disk). IsWritten which text d) (sym firm_is) all)
  where
    made : IsNewFile (disk_of s) (disk_of t) (spot_of at) text
    made = new_file-ok at text s t answer new

    firm_is : after (disk_of t) (SyncFile at true) ≡ made_firm (disk_of t) (file (disk_of s).fresh)
    firm_is = made_firm-file (disk_of t) at (disk_of s).fresh made.now

    never : (x : Spot) → MayHold (disk_of s) x (file (disk_of s).fresh) → ⊥
    never x h = let lt = valid.numbers x (disk_of s).fresh h in omega arith

    all : IsWritten which text (made_firm (disk_of t) (file (disk_of s).fresh))
    all = record {
      number = (disk_of s).fresh;
      now = subst (λ x. (disk_of t).now x ≡ file (disk_of s).fresh) is made.now;
      firm = firm-made (disk_of t) (disk_of s).fresh;
      bytes = ap (λ b. b (disk_of s).fresh) (bytes-made_firm (disk_of t) (file (disk_of s).fresh)) ∙ made.bytes;
      alone = λ x h. elim (made.held x (file (disk_of s).fresh) (same_places-hold (disk_of t) (made_firm (disk_of t) (file (disk_of s).fresh)) x (file (disk_of s).fresh) (made_firm-places (disk_of t) (file (disk_of s).fresh)) h)) [
        | inl here ↦ here.0 ∙ is
        | inr old ↦ absurd (never x old)
      ];
    }
