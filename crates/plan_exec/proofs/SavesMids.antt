-- While the saves run, Mid holds.
use Rattle.std.proofs.Common.{subst, ◌≡◌, ◌⊎◌, refl, sym, ap, ◌∙◌, inl, inr}
use Rattle.std.specs.List.{Contains}
use Rattle.tree_fs.specs.declared.place.Place.{Place}
use Rattle.tree_fs.specs.Spot.{Spot, spot_of}
use Rattle.tree_fs.specs.Disk.{Disk, Value, none, file, odd, MayHold}
use Rattle.tree_fs.specs.Story.{Story, disk_of, Along}
use Rattle.tree_fs.proofs.Moments.{along_weaken}
use Rattle.move_plan.specs.declared.plan.Plan.{Plan}
use Rattle.move_plan.specs.Places.{IsSetTo, IsSaveTo}
use Rattle.move_plan.specs.Rules.{PassesRules}
use Rattle.move_plan.proofs.Ordered.{one_save}
use Rattle.desk_model.specs.Desk.{file_or_none}
use Rattle.move_plan.specs.Sound.{SoundPlan}
use Rattle.desk_model.specs.Mid.{Mid, SavesMade, SetsWait}
use Rattle.desk_model.proofs.MidKept.{mid-fewer}
use Rattle.desk_model.specs.Standing.{SavesDone}
use Rattle.plan_exec.specs.Frames.{Saves}
use Rattle.plan_exec.proofs.Rules.{save-not_set, save_from-set}

none_or_it : (v w : Value) → v ≡ file_or_none w → (v ≡ none) ⊎ (v ≡ w)
none_or_it v none is = inl is
none_or_it v odd is = inl is
none_or_it v (file n) is = inr is

module _ (plan : Plan) (passes : PassesRules plan) (a d e : Disk) (mid : Mid a plan d) (saves : Saves plan d e) where
  within : (x : Spot) → ¬ IsSaveTo plan x → (v : Value) → MayHold e x v → MayHold d x v
  within x unset v h = elim (saves.held x v h) [ inl old ↦ old | inr put ↦ absurd (unset (record { save = put.save; listed = put.listed; here = put.here })) ]

  set_place : (x : Spot) → IsSetTo plan x → ¬ IsSaveTo plan x
  set_place x is to = save-not_set plan passes x to is

  -- before the sets are begun
  module _ (wait : SetsWait a plan d) where
    save_value : (s : Place × Place) (v : Value) → Contains plan.saves s → MayHold e (spot_of s.1) v → (v ≡ none) ⊎ (v ≡ a.now (spot_of s.0))
    save_value s v listed h = elim (saves.held (spot_of s.1) v h) [
      | inl old ↦ mid.saves s v listed old
      | inr put ↦ elim put.value [
        | inl gone ↦ inl gone
        | inr got ↦
            let same : put.save ≡ s = one_save plan passes put.save s put.listed listed put.here in
            let now : d.now (spot_of s.0) ≡ a.now (spot_of s.0) = wait (spot_of s.0) (save_from-set plan passes s listed) (d.now (spot_of s.0)) (inl refl) in
            none_or_it v (a.now (spot_of s.0)) (got ∙ ap (λ (r : Place × Place). file_or_none (d.now (spot_of r.0))) same ∙ ap file_or_none now)
      ]
    ]

    wait_kept : SetsWait a plan e
    wait_kept x is w h = wait x is w (within x (set_place x is) w h)

    mid_waiting : Mid a plan e
    mid_waiting = record {
      saves = save_value;
      sets = λ row v listed h. inl (wait_kept (spot_of row.to) (record { row = row; listed = listed; here = refl }) v h);
      steps = inl wait_kept;
      rest = λ x is out no_control w h. mid.rest x is out no_control w (within x (λ to. out (inr to)) w h);
      folders_stay = λ x is there. ap (λ f. f x) saves.files.folders ∙ mid.folders_stay x is there;
      folders_made = λ x is there. mid.folders_made x is (sym (ap (λ f. f x) saves.files.folders) ∙ there);
      bytes = λ x n is has. let had = mid.bytes x n is has in (ap (λ f. f n) saves.files.firm ∙ had.0, ap (λ f. f n) saves.files.bytes ∙ had.1);
    }

  -- once the saves are made they stay as they are
  made_within : SoundPlan a plan → SavesMade a plan d → (x : Spot) (v : Value) → MayHold e x v → MayHold d x v
  made_within sound made x v h = elim (saves.held x v h) [
    | inl old ↦ old
    | inr put ↦
        let source = sound.save_source put.save put.listed in
        let is : d.now (spot_of put.save.1) ≡ file source.0 = made put.save put.listed (d.now (spot_of put.save.1)) (inl refl) ∙ source.1 in
        saves.had x v (source.0, subst (λ y. d.now y ≡ file source.0) put.here is) h
  ]

  pub mid_saves : SoundPlan a plan → Mid a plan e
  mid_saves sound = elim mid.steps [
    | inl wait ↦ mid_waiting wait
    | inr made ↦ mid-fewer a plan e d (record {
      folders = saves.files.folders;
      within = made_within sound made;
      files = λ n firm. (ap (λ f. f n) saves.files.firm ∙ firm, ap (λ f. f n) saves.files.bytes);
    }) mid
  ]

pub saves_mid : (plan : Plan) → PassesRules plan → (a : Disk) (s t : Story) → SoundPlan a plan → Mid a plan (disk_of s) → Along (Saves plan (disk_of s)) s t → Along (Mid a plan) s t
saves_mid plan passes a s t sound mid along = along_weaken (Saves plan (disk_of s)) (Mid a plan) s t (λ e h. mid_saves plan passes a (disk_of s) e mid h sound) along

-- once the saves are done they are made
pub saves_made : (plan : Plan) (a d : Disk) → SavesDone d plan → Mid a plan d → SavesMade a plan d
saves_made plan a d done mid s listed w h =
    let f = done (spot_of s.1) (record { save = s; listed = listed; here = refl }) in
    elim (mid.saves s w listed h) [ inl gone ↦ let t : none ≡ file f.number = sym gone ∙ f.only w h in absurd (cc) | inr is ↦ is ]
