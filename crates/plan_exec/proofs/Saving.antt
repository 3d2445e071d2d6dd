-- The saves, one after the other.
use Rattle.std.proofs.Common.{◌≡◌, ◌≢◌, ℕ, ◌+◌, ◌<◌, length, get_or, take, refl, sym, ap, ◌∙◌, inl, inr, subst}
use Rattle.std.specs.List.{Contains}
use Rattle.tree_fs.specs.declared.name.Kind.TheVariants.{File}
use Rattle.tree_fs.specs.declared.place.Place.{Place}
use Rattle.tree_fs.specs.Spot.{Spot, spot_of}
use Rattle.tree_fs.specs.Disk.{Disk, Value, MayHold, IsFile, IsValid, kind_of}
use Rattle.tree_fs.specs.Story.{Story, disk_of}
use Rattle.tree_fs.proofs.KindOf.{kind-file, file-kind}
use Rattle.tree_fs.proofs.Disks.{file-no_folder}
use Rattle.plan_exec.specs.Counts.{Runs}
use Rattle.plan_exec.proofs.Runs.{runs_then, runs_unchanged, runs_trans, runs_last, runs_weaken}
use Rattle.tree_fs.proofs.Spots.{same_or_other}
use Rattle.move_plan.specs.declared.plan.Plan.{Plan}
use Rattle.move_plan.specs.Places.{IsSaveTo}
use Rattle.move_plan.specs.Rules.{PassesRules}
use Rattle.desk_model.specs.Desk.{file_or_none}
use Rattle.plan_exec.specs.Frames.{Brings, Saves}
use Rattle.tree_fs.specs.Frames.{Touches, Syncs}
use Rattle.tree_fs.proofs.Ops.{same_files}
use Rattle.tree_fs.proofs.Frames.{same_files-trans, touches_same}
use Rattle.plan_exec.proofs.Rules.{save-not_set, save_from-set}
use Rattle.list_laws.proofs.Containing.{in_next}

-- One save

pub brings_nothing : (at : Spot) (w : Value) (s t : Story) → IsValid (disk_of s) → t ≡ s → Runs 0 (Brings at w (disk_of s)) s t
brings_nothing at w s t valid is = runs_unchanged (Brings at w (disk_of s)) s t is (record { touches = touches_same at w (disk_of s) valid; had = λ f v h. h; still = λ f. refl })

-- what is brought where no file is
pub brings_some : (at from : Spot) (s t u : Story) → IsValid (disk_of s) → t ≡ s → kind_of (disk_of s) at ≢ File → Runs 0 (Touches at (file_or_none ((disk_of t).now from)) (disk_of t)) t u → Runs 0 (Brings at (file_or_none ((disk_of s).now from)) (disk_of s)) s u
brings_some at from s t u valid is no_file a =
    let w = file_or_none ((disk_of s).now from) in
    let never : IsFile (disk_of s) at → ⊥ = λ f. no_file (file-kind (disk_of s) at (file-no_folder (disk_of s) at valid f) f) in
    runs_weaken 0 (Touches at w (disk_of s)) (Brings at w (disk_of s)) s u
    (λ e h. record { touches = h; had = λ f. absurd (never f); still = λ f. absurd (never f) })
    (subst (λ r. Runs 0 (Touches at (file_or_none ((disk_of r).now from)) (disk_of r)) r u) is a)

pub brought_file : (d e : Disk) (from to : Spot) → IsFile d from → e.now to ≡ file_or_none (d.now from) → IsFile e to
brought_file d e from to f is = (f.0, is ∙ ap file_or_none f.1)

pub still_file : (d e : Disk) (at : Spot) → e ≡ d → kind_of d at ≡ File → IsFile e at
still_file d e at same is = subst (λ g. IsFile g at) (sym same) (kind-file d at is).1

-- All of them

pub saves_same : (plan : Plan) (d : Disk) → IsValid d → Saves plan d d
saves_same plan d valid = record { valid = valid; files = same_files d; held = λ x v h. inl h; now = λ x unset. refl; had = λ x v f h. h; still = λ x f. refl }

module _ (plan : Plan) (passes : PassesRules plan) where
  pub source-not_save : (save : Place × Place) → Contains plan.saves save → ¬ IsSaveTo plan (spot_of save.0)
  source-not_save save listed to = save-not_set plan passes (spot_of save.0) to (save_from-set plan passes save listed)

  pub save_apart : (save : Place × Place) → Contains plan.saves save → spot_of save.0 ≢ spot_of save.1
  save_apart save listed e = source-not_save save listed (record { save = save; listed = listed; here = sym e })

  pub saves_more : (a d e : Disk) (save : Place × Place) → Contains plan.saves save → Saves plan a d → Brings (spot_of save.1) (file_or_none (d.now (spot_of save.0))) d e → Saves plan a e
  saves_more a d e save listed h b = record {
    valid = b.touches.valid;
    files = same_files-trans a d e h.files b.touches.files;
    held = λ x v held. elim (same_or_other x (spot_of save.1)) [
      | inl same ↦ elim (b.touches.own v (subst (λ y. MayHold e y v) same held)) [
        | inl old ↦ h.held x v (subst (λ y. MayHold d y v) (sym same) old)
        | inr new ↦ inr (record { save = save; listed = listed; here = sym same; value = elim new [ inl gone ↦ inl gone | inr got ↦ inr (got ∙ ap file_or_none (h.now (spot_of save.0) (source-not_save save listed))) ] })
      ]
      | inr ne ↦ h.held x v (b.touches.others x v ne held)
    ];
    now = λ x unset. b.touches.now x (λ e. unset (record { save = save; listed = listed; here = sym e })) ∙ h.now x unset;
    had = λ x v f held. h.had x v f (elim (same_or_other x (spot_of save.1)) [
      | inl same ↦ subst (λ y. MayHold d y v) (sym same) (b.had (subst (IsFile d) same (f.0, h.still x f ∙ f.1)) v (subst (λ y. MayHold e y v) same held))
      | inr ne ↦ b.touches.others x v ne held
    ]);
    still = λ x f. still_one x f ∙ h.still x f;
  }
    where
      still_one : (x : Spot) → IsFile a x → e.now x ≡ d.now x
      still_one x f = elim (same_or_other x (spot_of save.1)) [
        | inl same ↦ subst (λ y. e.now y ≡ d.now y) (sym same) (b.still (subst (IsFile d) same (f.0, h.still x f ∙ f.1)))
        | inr ne ↦ b.touches.now x ne
      ]

  pub one_save_more : (s t u : Story) (save : Place × Place) → Contains plan.saves save → Runs 0 (Saves plan (disk_of s)) s t → Runs 0 (Brings (spot_of save.1) (file_or_none ((disk_of t).now (spot_of save.0))) (disk_of t)) t u → Runs 0 (Saves plan (disk_of s)) s u
  one_save_more s t u save listed a b =
      let P = Saves plan (disk_of s) in
      let w = file_or_none ((disk_of t).now (spot_of save.0)) in
      let last = runs_last 0 P s t a in
      runs_trans 0 0 P s t u a (runs_weaken 0 (Brings (spot_of save.1) w (disk_of t)) P t u (λ e h. saves_more (disk_of s) (disk_of t) e save listed last h) b)

  -- each save so far is a file
  pub save_next : (i : ℕ) (this : Place × Place) (t u : Story) → i < length plan.saves → this ≡ get_or plan.saves i this
      → Runs 0 (Brings (spot_of this.1) (file_or_none ((disk_of t).now (spot_of this.0))) (disk_of t)) t u
      → ((save : Place × Place) → Contains (take i plan.saves) save → IsFile (disk_of t) (spot_of save.1))
      → IsFile (disk_of u) (spot_of this.1)
      → (save : Place × Place) → Contains (take (i + 1) plan.saves) save → IsFile (disk_of u) (spot_of save.1)
  save_next i this t u lt is b done now save c = elim (in_next plan.saves i this save lt is c) [
    | inl earlier ↦ elim (same_or_other (spot_of save.1) (spot_of this.1)) [
      | inl same ↦ subst (IsFile (disk_of u)) (sym same) now
      | inr ne ↦ let f = done save earlier in (f.0, (runs_last 0 (Brings (spot_of this.1) (file_or_none ((disk_of t).now (spot_of this.0))) (disk_of t)) t u b).touches.now (spot_of save.1) ne ∙ f.1)
    ]
    | inr same ↦ subst (λ (s : Place × Place). IsFile (disk_of u) (spot_of s.1)) (sym same) now
  ]

pub saves_synced : (plan : Plan) (a d e : Disk) → Saves plan a d → Syncs d e → Saves plan a e
saves_synced plan a d e h s = record {
  valid = s.valid;
  files = same_files-trans a d e h.files s.files;
  held = λ x v held. h.held x v (s.held x v held);
  now = λ x unset. s.now x ∙ h.now x unset;
  had = λ x v f held. h.had x v f (s.held x v held);
  still = λ x f. s.now x ∙ h.still x f;
}

pub then_synced : (n : ℕ) (plan : Plan) (s t u : Story) → Runs 0 (Saves plan (disk_of s)) s t → Runs n (Syncs (disk_of t)) t u → Runs n (Saves plan (disk_of s)) s u
then_synced n plan s t u a b =
    let P = Saves plan (disk_of s) in
    let last = runs_last 0 P s t a in
    runs_then n P s t u a (runs_weaken n (Syncs (disk_of t)) P t u (λ e h. saves_synced plan (disk_of s) (disk_of t) e last h) b)
