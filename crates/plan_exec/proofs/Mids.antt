-- Mid where a plan is begun, and while its folders are made.
use Rattle.std.proofs.Common.{◌<◌, ◌≤◌, arith, ◌≡◌, ◌⊎◌, ℕ, true, refl, sym, ap, ◌∙◌, inl, inr, subst}
use Rattle.std.specs.List.{Contains}
use Rattle.rel_paths.specs.declared.control.Control.TheVariants as control
use Rattle.tree_fs.specs.declared.place.Place.{Place}
use Rattle.tree_fs.specs.Spot.{Spot, spot_of}
use Rattle.tree_fs.specs.Disk.{Disk, Value, file, MayHold, IsIn, IsSettled, IsValid}
use Rattle.tree_fs.specs.Story.{Story, disk_of, Along}
use Rattle.tree_fs.proofs.KindOf.{kind-absent}
use Rattle.tree_fs.proofs.Moments.{along_weaken}
use Rattle.move_plan.specs.declared.plan.Plan.{Plan}
use Rattle.move_plan.specs.Places.{Has}
use Rattle.move_plan.specs.Rules.{IsFree, PassesRules}
use Rattle.move_plan.specs.Sound.{SoundPlan}
use Rattle.desk_model.specs.Mid.{Mid}
use Rattle.intent_journal.specs.declared.temp.Temp.TheVariants as temp
use Rattle.intent_journal.specs.Temps.{Beside}
use Rattle.plan_exec.proofs.Rules.{set_free, save_free}

-- At the start

-- a sound plan on a disk where every place is settled and each file that is there is firm
pub sound_mid : (plan : Plan) (a : Disk) → SoundPlan a plan → ((x : Spot) → IsSettled a x) → ((x : Spot) (n : ℕ) → a.now x ≡ file n → a.firm n ≡ true) → Mid a plan a
sound_mid plan a sound settled firm = record {
  saves = λ s v listed h. inl (settled (spot_of s.1) v h ∙ (kind-absent a (spot_of s.1) (sound.save_absent s listed)).1);
  sets = λ row v listed h. inl (settled (spot_of row.to) v h);
  steps = inl (λ x is. settled x);
  rest = λ x is out no_control. settled x;
  folders_stay = λ x is there. there;
  folders_made = λ x is there. inl there;
  bytes = λ x n is has. (firm x n has, refl);
}

-- While the intent is written

module _ (plan : Plan) (passes : PassesRules plan) (a d e : Disk) (valid : IsValid a) (fresh : a.fresh ≤ d.fresh) (mid : Mid a plan d) (beside : Beside temp.Intent d e) where
  free_held : (x : Spot) (v : Value) → IsFree x → MayHold e x v → MayHold d x v
  free_held x v free h = beside.held x v (free.not_control control.Intent) (free.not_control control.IntentTemp) h

  save_held : (s : Place × Place) → Contains plan.saves s → (v : Value) → MayHold e (spot_of s.1) v → MayHold d (spot_of s.1) v
  save_held s listed v h = free_held (spot_of s.1) v (save_free plan passes (spot_of s.1) (record { save = s; listed = listed; here = refl })) h

  pub beside_mid : Mid a plan e
  beside_mid = record {
    saves = λ s v listed h. mid.saves s v listed (save_held s listed v h);
    sets = λ row v listed h. mid.sets row v listed (free_held (spot_of row.to) v (set_free plan passes (spot_of row.to) (record { row = row; listed = listed; here = refl })) h);
    steps = elim mid.steps [
      | inl wait ↦ inl (λ x is w h. wait x is w (free_held x w (set_free plan passes x is) h))
      | inr made ↦ inr (λ s listed w h. made s listed w (save_held s listed w h))
    ];
    rest = λ x is out no_control w h. mid.rest x is out no_control w (beside.held x w (λ e. no_control (control.Intent, e)) (λ e. no_control (control.IntentTemp, e)) h);
    folders_stay = λ x is there. ap (λ f. f x) beside.folders ∙ mid.folders_stay x is there;
    folders_made = λ x is there. mid.folders_made x is (sym (ap (λ f. f x) beside.folders) ∙ there);
    bytes = λ x n is has.
        let had = mid.bytes x n is has in
        let old : n < a.fresh = valid.numbers x n (inl (sym has)) in
        let still = beside.files n (omega arith) had.0 in
        (still.0, still.1 ∙ had.1);
  }

-- at every stop of a change of the intent place Mid holds
pub beside_mids : (plan : Plan) → PassesRules plan → (a : Disk) (s t : Story) → IsValid a → a.fresh ≤ (disk_of s).fresh → Mid a plan (disk_of s) → Along (Beside temp.Intent (disk_of s)) s t → Along (Mid a plan) s t
beside_mids plan passes a s t valid fresh mid b =
    along_weaken (Beside temp.Intent (disk_of s)) (Mid a plan) s t (λ e h. beside_mid plan passes a (disk_of s) e valid fresh mid h) b

-- While folders are made

module _ (plan : Plan) (a d e : Disk) (now : e.now ≡ d.now) (earlier : e.before ≡ d.before) (bytes : e.bytes ≡ d.bytes) (firm : e.firm ≡ d.firm)
    (kept : (x : Spot) → d.folders x ≡ true → e.folders x ≡ true) (made : (x : Spot) → e.folders x ≡ true → (d.folders x ≡ true) ⊎ Has plan.folders x) where
  held_then : (x : Spot) (v : Value) → MayHold e x v → MayHold d x v
  held_then x v h = elim h [
    | inl is ↦ inl (is ∙ ap (λ f. f x) now)
    | inr was ↦ inr (subst (IsIn v) (ap (λ f. f x) earlier) was)
  ]

  -- where folders of the plan are made, and nothing else changes
  pub folders_mid : Mid a plan d → Mid a plan e
  folders_mid mid = record {
    saves = λ s v listed h. mid.saves s v listed (held_then (spot_of s.1) v h);
    sets = λ row v listed h. mid.sets row v listed (held_then (spot_of row.to) v h);
    steps = elim mid.steps [
      | inl wait ↦ inl (λ x is w h. wait x is w (held_then x w h))
      | inr done ↦ inr (λ s listed w h. done s listed w (held_then (spot_of s.1) w h))
    ];
    rest = λ x is out no_control w h. mid.rest x is out no_control w (held_then x w h);
    folders_stay = λ x is there. kept x (mid.folders_stay x is there);
    folders_made = λ x is there. elim (made x there) [ inl was ↦ mid.folders_made x is was | inr new ↦ inr new ];
    bytes = λ x n is has. let had = mid.bytes x n is has in (ap (λ f. f n) firm ∙ had.0, ap (λ f. f n) bytes ∙ had.1);
  }
