-- One value of the intent place gives way to another.
use Rattle.std.proofs.Common.{◌≡◌, ◌≢◌, ◌⊎◌, ℕ, ◌≤◌, List, refl, sym, ap, ◌∙◌, inl, inr, subst, Result, OnOk}
use Rattle.std.specs.declared.option.Option.{Option}
use Rattle.std.specs.declared.option.Option.TheVariants.{None, Some}
use Rattle.std.specs.declared.result.Result.TheVariants.{Ok, Err}
use Rattle.tree_fs.specs.declared.name.Kind.TheVariants.{File}
use Rattle.tree_fs.specs.declared.op.Op.TheVariants.{Unlink}
use Rattle.tree_fs.specs.declared.place.Place.{Place}
use Rattle.tree_fs.specs.declared.place.Root.TheVariants.{Keep}
use Rattle.tree_fs.specs.declared.tree.TreeError.{TreeError}
use Rattle.tree_fs.specs.Spot.{Spot, spot_of, root_spot}
use Rattle.tree_fs.specs.Disk.{Disk, Value, none, file, odd, MayHold, IsFile, IsValid, put, kind_of}
use Rattle.tree_fs.specs.Story.{Story, disk_of, Along}
use Rattle.tree_fs.specs.Calls.{AddsOne}
use Rattle.tree_fs.specs.Frames.{Touches, Syncs, EntriesSettled}
use Rattle.tree_fs.proofs.Disks.{MayHold-put, MayHold-put_at, MayHold-put_other, now-put_at, now-put_other, valid-put}
use Rattle.tree_fs.proofs.Frames.{takes_none}
use Rattle.tree_fs.proofs.KindOf.{kind-file, kind-absent, same_kind}
use Rattle.tree_fs.proofs.Moments.{along_adds, along_trans, along_last, along_weaken, along_unchanged}
use Rattle.tree_fs.proofs.Stories.{AddsOne-on_ok}
use Rattle.intent_json.specs.declared.intent.Intent.{Intent}
use Rattle.intent_json.specs.Reads.{intent_value}
use Rattle.desk_model.specs.Places.{intent_spot}
use Rattle.desk_model.specs.Outcome.{intent_by}
use Rattle.desk_model.proofs.Spots.{keep_control, intent-not_temp}
use Rattle.desk_model.proofs.Fewer.{firm_file}
use Rattle.rel_paths.specs.declared.control.Control.TheVariants as control
use Rattle.intent_journal.specs.declared.temp.Temp.TheVariants as temp
use Rattle.intent_journal.specs.Temps.{temp_spot, IsFileOrAbsent, IsFirmBut, Beside, Temped, Installs, IsWritten, IsInstalled}
use Rattle.intent_journal.specs.Forms.{Reads, BetweenForms, HoldsForm}
use Rattle.intent_journal.proofs.Temping.{beside_same, beside_trans}

-- an intent's text stays
same_text : (a e : Disk) → IsValid a → IsFirmBut a → Beside temp.Intent a e → (v : Value) → MayHold a intent_spot v → intent_by e.bytes v ≡ intent_by a.bytes v
same_text a e valid firm b none h = refl
same_text a e valid firm b odd h = refl
same_text a e valid firm b (file n) h = ap intent_value (b.files n (valid.numbers intent_spot n h) (firm_file a intent_spot n firm intent-not_temp h)).1

same_reads : (a e : Disk) → IsValid a → IsFirmBut a → Beside temp.Intent a e → (v : Value) → MayHold a intent_spot v → (o : Option Intent) → Reads a.bytes v o → Reads e.bytes v o
same_reads a e valid firm b v h None is = is
same_reads a e valid firm b v h (Some i) is = same_text a e valid firm b v h ∙ is

pub temped_form : (was : Option Intent) (a e : Disk) → IsValid a → IsFirmBut a → Temped temp.Intent a e → HoldsForm was a → HoldsForm was e
temped_form was a e valid firm t holds v h = let old = t.place v h in same_reads a e valid firm t.beside v old was (holds v old)

pub between_same : (was next : Option Intent) (a : Disk) → IsValid a → HoldsForm was a → BetweenForms was next a a
between_same was next a valid holds = record { beside = beside_same temp.Intent a valid; each = λ v h. inl (holds v h) }

temped_between : (was next : Option Intent) (a e : Disk) → IsValid a → IsFirmBut a → HoldsForm was a → Temped temp.Intent a e → BetweenForms was next a e
temped_between was next a e valid firm holds t = record { beside = t.beside; each = λ v h. inl (temped_form was a e valid firm t holds v h) }

between_from : (was next : Option Intent) (a d e : Disk) → Temped temp.Intent a d → BetweenForms was next d e → BetweenForms was next a e
between_from was next a d e t b = record { beside = beside_trans temp.Intent a d e t.beside b.beside; each = b.each }

-- the temp comes to the intent place
reads_next : (e : Disk) (n : ℕ) (text : List ℕ) (next : Intent) → e.bytes n ≡ text → intent_value text ≡ Some next → (v : Value) → v ≡ file n → Reads e.bytes v (Some next)
reads_next e n text next bytes is v at = ap (λ u. intent_by e.bytes u) at ∙ ap intent_value bytes ∙ is

installs_between : (was : Option Intent) (next : Intent) (text : List ℕ) (a e : Disk) → IsValid a → IsFirmBut a → HoldsForm was a → IsWritten temp.Intent text a → intent_value text ≡ Some next → Installs temp.Intent a e → BetweenForms was (Some next) a e
installs_between was next text a e valid firm holds w is i = record {
  beside = i.beside;
  each = λ v h. elim (i.place v h) [
    | inl old ↦ inl (same_reads a e valid firm i.beside v old was (holds v old))
    | inr new ↦ inr (reads_next e w.number text next ((i.beside.files w.number (valid.numbers (temp_spot temp.Intent) w.number (inl (sym w.now))) w.firm).1 ∙ w.bytes) is v (new ∙ w.now))
  ];
}

-- what stands then
pub installed_form : (next : Intent) (text : List ℕ) (d : Disk) → intent_value text ≡ Some next → IsInstalled temp.Intent text d → HoldsForm (Some next) d
installed_form next text d is i v h = reads_next d i.number text next i.bytes is v (i.only v h)

-- the temp is written, then installed
pub temps_between : (was next : Option Intent) (s t : Story) → IsValid (disk_of s) → IsFirmBut (disk_of s) → HoldsForm was (disk_of s) → Along (Temped temp.Intent (disk_of s)) s t → Along (BetweenForms was next (disk_of s)) s t
temps_between was next s t valid firm holds a = along_weaken (Temped temp.Intent (disk_of s)) (BetweenForms was next (disk_of s)) s t (λ e h. temped_between was next (disk_of s) e valid firm holds h) a

pub then_installs : (was : Option Intent) (next : Intent) (text : List ℕ) (s t u : Story) → IsValid (disk_of s) → IsFirmBut (disk_of s) → HoldsForm was (disk_of s) → intent_value text ≡ Some next
    → Along (Temped temp.Intent (disk_of s)) s t → IsWritten temp.Intent text (disk_of t) → Along (Installs temp.Intent (disk_of t)) t u → Along (BetweenForms was (Some next) (disk_of s)) s u
then_installs was next text s t u valid firm holds is a w b =
    let P = BetweenForms was (Some next) (disk_of s) in
    let last = along_last (Temped temp.Intent (disk_of s)) s t a in
    let then = temped_form was (disk_of s) (disk_of t) valid firm last holds in
    along_trans P s t u (temps_between was (Some next) s t valid firm holds a)
    (along_weaken (Installs temp.Intent (disk_of t)) P t u
    (λ e h. between_from was (Some next) (disk_of s) (disk_of t) e last (installs_between was next text (disk_of t) e last.beside.valid (last.beside.firm firm) then w is h)) b)

-- what stood at the intent place stands there
pub place_kept : (a d : Disk) → Temped temp.Intent a d → IsFileOrAbsent a intent_spot → IsFileOrAbsent d intent_spot
place_kept a d t way =
    let k = same_kind d a intent_spot (ap (λ f. f intent_spot) t.beside.folders) t.still in
    elim way [ inl is ↦ inl (k ∙ is) | inr is ↦ inr (k ∙ is) ]

-- an answer for every text is one for the text that is written
pub on_text : {T E : Type 0} (r : Result T E) (text : List ℕ) (P Q : List ℕ → Type 0) → P text → OnOk r ((x : List ℕ) → P x → Q x) → OnOk r (Q text)
on_text (Ok a) text P Q p h = h text p
on_text (Err e) text P Q p h = tt

-- the intent is taken away
gone_between : (was : Option Intent) (d : Disk) → IsValid d → IsFirmBut d → HoldsForm was d → IsFile d intent_spot → BetweenForms was None d (put d intent_spot none)
gone_between was d valid soft holds is = record {
  beside = record {
    valid = valid-put d intent_spot none valid (takes_none d intent_spot valid is);
    folders = refl;
    held = λ q v p t h. MayHold-put_other d intent_spot q none v p h;
    now = λ q p t. now-put_other d intent_spot none q p;
    files = λ n lt f. (f, refl);
    fresh = (beside_same temp.Intent d valid).fresh;
    firm = λ firm q n h s. elim (MayHold-put d intent_spot q none (file n) h) [ inl new ↦ let t : file n ≡ none = new.1 in absurd (cc) | inr old ↦ firm q n old s ];
  };
  each = λ v h. elim (MayHold-put_at d intent_spot none v h) [ inl new ↦ inr new | inr old ↦ inl (holds v old) ];
}

pub remove_stops : {T : Type 0} (at : Place) (s t u : Story) (r : Result T TreeError) (was : Option Intent) → IsValid (disk_of s) → IsFirmBut (disk_of s) → spot_of at ≡ intent_spot → t ≡ s → kind_of (disk_of s) (spot_of at) ≡ File → HoldsForm was (disk_of s) → AddsOne (Unlink at) t u r → Along (BetweenForms was None (disk_of s)) s u
remove_stops at s t u r was valid firm is same kind holds adds =
    let d = disk_of s in
    let here = between_same was None d valid holds in
    along_adds (BetweenForms was None d) (Unlink at) s u r (subst (λ q. AddsOne (Unlink at) q u r) same adds) here
    (subst (λ x. BetweenForms was None d (put d x none)) (sym is) (gone_between was d valid firm holds (subst (IsFile d) is (kind-file d (spot_of at) kind).1))) here

pub removed : {T : Type 0} (at : Place) (t u : Story) (r : Result T TreeError) → spot_of at ≡ intent_spot → AddsOne (Unlink at) t u r → OnOk r ((disk_of u).now intent_spot ≡ none)
removed at t u r is adds = AddsOne-on_ok (λ d. d.now intent_spot ≡ none) (Unlink at) t u r adds (subst (λ x. (put (disk_of t) (spot_of at) none).now x ≡ none) is (now-put_at (disk_of t) (spot_of at) none))

pub still_gone : (d e : Disk) (x : Spot) → e ≡ d → kind_of d x ≢ File → IsFileOrAbsent d x → e.now x ≡ none
still_gone d e x same ne (inl is) = absurd (ne is)
still_gone d e x same ne (inr is) = ap (λ (f : Disk). f.now x) same ∙ (kind-absent d x is).1

pub none_between : (s t : Story) (was next : Option Intent) → IsValid (disk_of s) → t ≡ s → HoldsForm was (disk_of s) → Along (BetweenForms was next (disk_of s)) s t
none_between s t was next valid is holds = along_unchanged (BetweenForms was next (disk_of s)) s t is (between_same was next (disk_of s) valid holds)

-- syncs after it
between_syncs : (was next : Option Intent) (a d e : Disk) → BetweenForms was next a d → Syncs d e → BetweenForms was next a e
between_syncs was next a d e b s = record {
  beside = record {
    valid = s.valid;
    folders = s.files.folders ∙ b.beside.folders;
    held = λ q v p t held. b.beside.held q v p t (s.held q v held);
    now = λ q p t. s.now q ∙ b.beside.now q p t;
    files = λ n lt f. let old = b.beside.files n lt f in (ap (λ g. g n) s.files.firm ∙ old.0, ap (λ g. g n) s.files.bytes ∙ old.1);
    fresh = subst (λ n. a.fresh ≤ n) (sym s.files.fresh) b.beside.fresh;
    firm = λ firm q n held soft. b.beside.firm firm q n (s.held q (file n) held) (sym (ap (λ g. g n) s.files.firm) ∙ soft);
  };
  each = λ v held. subst (λ (bytes : ℕ → List ℕ). Reads bytes v was ⊎ Reads bytes v next) (sym s.files.bytes) (b.each v (s.held intent_spot v held));
}

pub then_syncs : (was next : Option Intent) (s t u : Story) → Along (BetweenForms was next (disk_of s)) s t → Along (Syncs (disk_of t)) t u → Along (BetweenForms was next (disk_of s)) s u
then_syncs was next s t u a b =
    let P = BetweenForms was next (disk_of s) in
    let last = along_last P s t a in
    along_trans P s t u a (along_weaken (Syncs (disk_of t)) P t u (λ e h. between_syncs was next (disk_of s) (disk_of t) e last h) b)

pub settled_none : {T E : Type 0} (t u : Story) (r : Result T E) → (disk_of t).now intent_spot ≡ none → Along (Syncs (disk_of t)) t u → OnOk r (EntriesSettled (disk_of u) (root_spot Keep)) → OnOk r (HoldsForm None (disk_of u))
settled_none t u (Ok a) gone syncs one = λ v h. one intent_spot (keep_control control.Intent refl) v h ∙ (along_last (Syncs (disk_of t)) t u syncs).now intent_spot ∙ gone
settled_none t u (Err e) gone syncs one = tt

-- nothing else changes, whatever was there

pub only_temps : (s t : Story) → Along (Temped temp.Intent (disk_of s)) s t → Along (Beside temp.Intent (disk_of s)) s t
only_temps s t a = along_weaken (Temped temp.Intent (disk_of s)) (Beside temp.Intent (disk_of s)) s t (λ e h. h.beside) a

pub only_installs : (s t u : Story) → Along (Temped temp.Intent (disk_of s)) s t → Along (Installs temp.Intent (disk_of t)) t u → Along (Beside temp.Intent (disk_of s)) s u
only_installs s t u a b =
    let P = Beside temp.Intent (disk_of s) in
    let last = along_last P s t (only_temps s t a) in
    along_trans P s t u (only_temps s t a) (along_weaken (Installs temp.Intent (disk_of t)) P t u (λ e h. beside_trans temp.Intent (disk_of s) (disk_of t) e last h.beside) b)

pub still_touched : (s t : Story) → Along (Touches intent_spot none (disk_of s)) s t → (x : Spot) → x ≢ intent_spot → kind_of (disk_of t) x ≡ kind_of (disk_of s) x
still_touched s t a x ne =
    let last = along_last (Touches intent_spot none (disk_of s)) s t a in
    same_kind (disk_of t) (disk_of s) x (ap (λ f. f x) last.files.folders) (last.now x ne)
