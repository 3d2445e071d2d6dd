-- The disk while the profile is written.
use Rattle.std.proofs.Common.{◌≡◌, ◌⊎◌, ℕ, List, sym, ap, ◌∙◌, inl, inr, subst, true}
use Rattle.tree_fs.specs.Spot.{Spot}
use Rattle.tree_fs.specs.Disk.{Disk, Value, file, MayHold, IsValid}
use Rattle.tree_fs.specs.Story.{Story, disk_of, Along}
use Rattle.tree_fs.proofs.KindOf.{same_kind}
use Rattle.tree_fs.proofs.Moments.{along_last, along_trans, along_weaken}
use Rattle.desk_model.specs.Places.{profile_spot}
use Rattle.intent_journal.specs.declared.temp.Temp.{Temp}
use Rattle.intent_journal.specs.declared.temp.Temp.TheVariants.{Profile}
use Rattle.intent_journal.specs.Temps.{temp_spot, place_spot, IsFileOrAbsent, Beside, Temped, Installs, IsWritten, IsInstalled}
use Rattle.intent_journal.proofs.Temping.{beside_trans}
use Rattle.plan_run.specs.Quiet.{IsQuiet}

-- a firm file with these bytes
pub record IsFileOf (text : List ℕ) (e : Disk) (v : Value) : Type 0 where
  pub number : ℕ
  pub is : v ≡ file number
  pub firm : e.firm number ≡ true
  pub bytes : e.bytes number ≡ text

-- nothing has changed but at the profile's place and its temp, and the place may hold what stood
-- there or a file with the new text
pub record Amid (text : List ℕ) (a e : Disk) : Type 0 where
  pub beside : Beside Profile a e
  pub place : (v : Value) → MayHold e profile_spot v → (v ≡ a.now profile_spot) ⊎ IsFileOf text e v

-- such a file stays one
file_stays : (text : List ℕ) (b e : Disk) (x : Spot) (v : Value) → IsValid b → Beside Profile b e → MayHold b x v → IsFileOf text b v → IsFileOf text e v
file_stays text b e x v valid beside held f =
    let kept = beside.files f.number (valid.numbers x f.number (subst (MayHold b x) f.is held)) f.firm in
    record { number = f.number; is = f.is; firm = kept.0; bytes = kept.1 ∙ f.bytes }

amid_first : (text : List ℕ) (a e : Disk) → IsQuiet a → Temped Profile a e → Amid text a e
amid_first text a e quiet t = record { beside = t.beside; place = λ v h. inl (quiet.settled profile_spot v (t.place v h)) }

module _ (text : List ℕ) (a b e : Disk) (m : Amid text a b) where
  stays : Beside Profile b e → (v : Value) → MayHold b profile_spot v → (v ≡ a.now profile_spot) ⊎ IsFileOf text e v
  stays beside v h = elim (m.place v h) [
    | inl old ↦ inl old
    | inr f ↦ inr (file_stays text b e profile_spot v m.beside.valid beside h f)
  ]

  amid_temped : Temped Profile b e → Amid text a e
  amid_temped t = record {
    beside = beside_trans Profile a b e m.beside t.beside;
    place = λ v h. stays t.beside v (t.place v h);
  }

  amid_installs : IsWritten Profile text b → Installs Profile b e → Amid text a e
  amid_installs w i = record {
    beside = beside_trans Profile a b e m.beside i.beside;
    place = λ v h. elim (i.place v h) [
      | inl before ↦ stays i.beside v before
      | inr new ↦ inr (file_stays text b e (temp_spot Profile) v m.beside.valid i.beside (inl new) (record { number = w.number; is = new ∙ w.now; firm = w.firm; bytes = w.bytes }))
    ];
  }

-- the same along the steps

pub temps_amid : (text : List ℕ) (s t : Story) → IsQuiet (disk_of s) → Along (Temped Profile (disk_of s)) s t → Along (Amid text (disk_of s)) s t
temps_amid text s t quiet a = along_weaken (Temped Profile (disk_of s)) (Amid text (disk_of s)) s t (λ e h. amid_first text (disk_of s) e quiet h) a

pub then_installs : (text : List ℕ) (which : Temp) → which ≡ Profile → (s t u : Story) → Along (Amid text (disk_of s)) s t → IsWritten which text (disk_of t) → Along (Installs which (disk_of t)) t u → Along (Amid text (disk_of s)) s u
then_installs text which is s t u a w b =
    let P = Amid text (disk_of s) in
    let written = subst (λ (q : Temp). IsWritten q text (disk_of t)) is w in
    along_trans P s t u a (along_weaken (Installs Profile (disk_of t)) P t u
    (λ e h. amid_installs text (disk_of s) (disk_of t) e (along_last P s t a) written h)
    (subst (λ (q : Temp). Along (Installs q (disk_of t)) t u) is b))

pub then_temped : (text : List ℕ) (s t u : Story) → Along (Amid text (disk_of s)) s t → Along (Temped Profile (disk_of t)) t u → Along (Amid text (disk_of s)) s u
then_temped text s t u a b =
    let P = Amid text (disk_of s) in
    along_trans P s t u a (along_weaken (Temped Profile (disk_of t)) P t u (λ e h. amid_temped text (disk_of s) (disk_of t) e (along_last P s t a) h) b)

-- what the temp's guard says of it

pub place_kept : (which : Temp) → which ≡ Profile → (a d : Disk) → Temped Profile a d → IsFileOrAbsent a profile_spot → IsFileOrAbsent d (place_spot which)
place_kept which is a d h way =
    let k = same_kind d a profile_spot (ap (λ f. f profile_spot) h.beside.folders) h.still in
    subst (λ (w : Temp). IsFileOrAbsent d (place_spot w)) (sym is) (elim way [ inl is_file ↦ inl (k ∙ is_file) | inr gone ↦ inr (k ∙ gone) ])

pub written_as : (which : Temp) → which ≡ Profile → (text : List ℕ) (d : Disk) → IsWritten Profile text d → IsWritten which text d
written_as which is text d w = subst (λ (u : Temp). IsWritten u text d) (sym is) w

pub installed_as : (which : Temp) → which ≡ Profile → (text : List ℕ) (d : Disk) → IsInstalled which text d → IsInstalled Profile text d
installed_as which is text d i = subst (λ (u : Temp). IsInstalled u text d) is i
