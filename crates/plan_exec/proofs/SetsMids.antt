-- While the sets run, Mid holds.
use Rattle.std.proofs.Common.{◌≡◌, ◌⊎◌, refl, sym, ap, ◌∙◌, inl, inr}
use Rattle.std.specs.List.{Contains}
use Rattle.tree_fs.specs.declared.place.Place.{Place}
use Rattle.tree_fs.specs.Spot.{Spot, spot_of}
use Rattle.tree_fs.specs.Disk.{Disk, Value, none, MayHold}
use Rattle.tree_fs.specs.Story.{Story, disk_of, Along}
use Rattle.tree_fs.proofs.Moments.{along_weaken}
use Rattle.move_plan.specs.declared.plan.SetRow.{SetRow}
use Rattle.move_plan.specs.declared.plan.Plan.{Plan}
use Rattle.move_plan.specs.Places.{IsSetTo, IsSetFrom, IsDestination}
use Rattle.move_plan.specs.Rules.{PassesRules}
use Rattle.move_plan.proofs.Ordered.{one_set}
use Rattle.desk_model.specs.Outcome.{file_at}
use Rattle.desk_model.specs.Mid.{set_from, Mid, SavesMade}
use Rattle.plan_exec.specs.Frames.{Puts}
use Rattle.desk_model.specs.Standing.{SavesDone}
use Rattle.plan_exec.proofs.SavesMids.{saves_made}
use Rattle.plan_exec.proofs.Rules.{from_free, from-not_set, save-not_set, save-not_from}
use Rattle.plan_exec.proofs.Putting.{file_same}

module _ (plan : Plan) (passes : PassesRules plan) (a d e : Disk) (mid : Mid a plan d) (made : SavesMade a plan d) (puts : Puts plan d e) where
  within : (x : Spot) → ¬ IsSetTo plan x → (v : Value) → MayHold e x v → MayHold d x v
  within x unset v h = elim (puts.held x v h) [ inl old ↦ old | inr put ↦ absurd (unset (record { row = put.row; listed = put.listed; here = put.here })) ]

  -- a source has what it had at the start
  from_start : (row : SetRow) → Contains plan.sets row → file_at d.now row.from ≡ file_at a.now row.from
  from_start row listed = file_same d.now a.now row.from (λ x at.
      let is : IsSetFrom plan x = record { row = row; listed = listed; here = at } in
      let out : IsDestination plan x → ⊥ = λ dest. elim dest [ inl to ↦ from-not_set plan passes x is to | inr to ↦ save-not_from plan passes x to is ] in
      mid.rest x (inl (inl (set_from is))) out (λ control. (from_free plan passes x is).not_control control.0 control.1) (d.now x) (inl refl))

  save_place : (s : Place × Place) → Contains plan.saves s → ¬ IsSetTo plan (spot_of s.1)
  save_place s listed = save-not_set plan passes (spot_of s.1) (record { save = s; listed = listed; here = refl })

  set_value : (row : SetRow) (v : Value) → Contains plan.sets row → MayHold e (spot_of row.to) v → (v ≡ a.now (spot_of row.to)) ⊎ (v ≡ none) ⊎ (v ≡ file_at a.now row.from)
  set_value row v listed h = elim (puts.held (spot_of row.to) v h) [
    | inl old ↦ mid.sets row v listed old
    | inr put ↦ elim put.value [
      | inl gone ↦ inr (inl gone)
      | inr got ↦ inr (inr (got ∙ ap (λ (r : SetRow). file_at d.now r.from) (one_set plan passes put.row row put.listed listed put.here) ∙ from_start row listed))
    ]
  ]

  pub mid_puts : Mid a plan e
  mid_puts = record {
    saves = λ s v listed h. mid.saves s v listed (within (spot_of s.1) (save_place s listed) v h);
    sets = set_value;
    steps = inr (λ s listed w h. made s listed w (within (spot_of s.1) (save_place s listed) w h));
    rest = λ x is out no_control w h. mid.rest x is out no_control w (within x (λ to. out (inl to)) w h);
    folders_stay = λ x is there. ap (λ f. f x) puts.files.folders ∙ mid.folders_stay x is there;
    folders_made = λ x is there. mid.folders_made x is (sym (ap (λ f. f x) puts.files.folders) ∙ there);
    bytes = λ x n is has. let had = mid.bytes x n is has in (ap (λ f. f n) puts.files.firm ∙ had.0, ap (λ f. f n) puts.files.bytes ∙ had.1);
  }

pub sets_mid : (plan : Plan) → PassesRules plan → (a : Disk) (s t : Story) → Mid a plan (disk_of s) → SavesDone (disk_of s) plan → Along (Puts plan (disk_of s)) s t → Along (Mid a plan) s t
sets_mid plan passes a s t mid done along = along_weaken (Puts plan (disk_of s)) (Mid a plan) s t (λ e h. mid_puts plan passes a (disk_of s) e mid (saves_made plan a (disk_of s) done mid) h) along
