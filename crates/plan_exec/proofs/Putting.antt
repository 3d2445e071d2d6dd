-- The sets, one after the other.
use Rattle.std.proofs.Common.{◌≡◌, ℕ, ◌+◌, ◌<◌, length, get_or, take, refl, sym, ap, ◌∙◌, inl, inr, subst}
use Rattle.std.specs.List.{Contains}
use Rattle.std.specs.declared.option.Option.{Option}
use Rattle.std.specs.declared.option.Option.TheVariants.{None, Some}
use Rattle.tree_fs.specs.declared.place.Place.{Place}
use Rattle.tree_fs.specs.Spot.{Spot, spot_of}
use Rattle.tree_fs.specs.Disk.{Disk, Value, MayHold, IsValid}
use Rattle.tree_fs.specs.Story.{Story, disk_of}
use Rattle.plan_exec.specs.Counts.{Runs}
use Rattle.plan_exec.proofs.Runs.{runs_then, runs_trans, runs_last, runs_weaken}
use Rattle.tree_fs.proofs.Spots.{same_or_other}
use Rattle.move_plan.specs.declared.plan.SetRow.{SetRow}
use Rattle.move_plan.specs.declared.plan.Plan.{Plan}
use Rattle.move_plan.specs.Places.{IsSetTo, IsAt}
use Rattle.move_plan.specs.Rules.{PassesRules}
use Rattle.move_plan.proofs.Ordered.{one_set}
use Rattle.desk_model.specs.Desk.{file_or_none}
use Rattle.desk_model.specs.Outcome.{file_at}
use Rattle.plan_exec.specs.Frames.{Puts}
use Rattle.tree_fs.specs.Frames.{Touches, Syncs}
use Rattle.tree_fs.proofs.Ops.{same_files}
use Rattle.tree_fs.proofs.Frames.{same_files-trans}
use Rattle.plan_exec.proofs.Rules.{from-not_set}
use Rattle.list_laws.proofs.Containing.{in_front, in_next, in_this}

pub puts_same : (plan : Plan) (d : Disk) → IsValid d → Puts plan d d
puts_same plan d valid = record { valid = valid; files = same_files d; held = λ x v h. inl h; now = λ x unset. refl }

-- a source that stays gives the file that it gave
pub file_same : (f g : Spot → Value) (o : Option Place) → ((x : Spot) → IsAt o x → f x ≡ g x) → file_at f o ≡ file_at g o
file_same f g None h = refl
file_same f g (Some p) h = ap file_or_none (h (spot_of p) refl)

module _ (plan : Plan) (passes : PassesRules plan) where
  pub source_kept : (a d : Disk) → ((x : Spot) → ¬ IsSetTo plan x → d.now x ≡ a.now x) → (row : SetRow) → Contains plan.sets row → file_at d.now row.from ≡ file_at a.now row.from
  source_kept a d now row listed = file_same d.now a.now row.from (λ x at. now x (from-not_set plan passes x (record { row = row; listed = listed; here = at })))

  pub puts_more : (a d e : Disk) (row : SetRow) → Contains plan.sets row → Puts plan a d → Touches (spot_of row.to) (file_at d.now row.from) d e → Puts plan a e
  puts_more a d e row listed h t = record {
    valid = t.valid;
    files = same_files-trans a d e h.files t.files;
    held = λ x v held. elim (same_or_other x (spot_of row.to)) [
      | inl same ↦ elim (t.own v (subst (λ y. MayHold e y v) same held)) [
        | inl old ↦ h.held x v (subst (λ y. MayHold d y v) (sym same) old)
        | inr new ↦ inr (record { row = row; listed = listed; here = sym same; value = elim new [ inl gone ↦ inl gone | inr got ↦ inr (got ∙ source_kept a d h.now row listed) ] })
      ]
      | inr ne ↦ h.held x v (t.others x v ne held)
    ];
    now = λ x unset. t.now x (λ e. unset (record { row = row; listed = listed; here = sym e })) ∙ h.now x unset;
  }

  pub one_put : (s t u : Story) (row : SetRow) → Contains plan.sets row → Runs 0 (Puts plan (disk_of s)) s t → Runs 0 (Touches (spot_of row.to) (file_at (disk_of t).now row.from) (disk_of t)) t u → Runs 0 (Puts plan (disk_of s)) s u
  one_put s t u row listed a b =
      let P = Puts plan (disk_of s) in
      let w = file_at (disk_of t).now row.from in
      let last = runs_last 0 P s t a in
      runs_trans 0 0 P s t u a (runs_weaken 0 (Touches (spot_of row.to) w (disk_of t)) P t u (λ e h. puts_more (disk_of s) (disk_of t) e row listed last h) b)

  -- each row so far has its source's file
  pub put_next : (i : ℕ) (this : SetRow) (s t u : Story) → i < length plan.sets → this ≡ get_or plan.sets i this
      → Runs 0 (Puts plan (disk_of s)) s t → Runs 0 (Touches (spot_of this.to) (file_at (disk_of t).now this.from) (disk_of t)) t u
      → ((row : SetRow) → Contains (take i plan.sets) row → (disk_of t).now (spot_of row.to) ≡ file_at (disk_of s).now row.from)
      → (disk_of u).now (spot_of this.to) ≡ file_at (disk_of t).now this.from
      → (row : SetRow) → Contains (take (i + 1) plan.sets) row → (disk_of u).now (spot_of row.to) ≡ file_at (disk_of s).now row.from
  put_next i this s t u lt is a b done now row c =
      let here = in_this plan.sets i this lt is in
      let mine : (disk_of u).now (spot_of this.to) ≡ file_at (disk_of s).now this.from = now ∙ source_kept (disk_of s) (disk_of t) (runs_last 0 (Puts plan (disk_of s)) s t a).now this here in
      let of_this : row ≡ this → (disk_of u).now (spot_of row.to) ≡ file_at (disk_of s).now row.from = λ same. subst (λ (r : SetRow). (disk_of u).now (spot_of r.to) ≡ file_at (disk_of s).now r.from) (sym same) mine in
      elim (in_next plan.sets i this row lt is c) [
        | inl earlier ↦ elim (same_or_other (spot_of row.to) (spot_of this.to)) [
          | inl same ↦ of_this (one_set plan passes row this (in_front plan.sets i this row lt is earlier) here same)
          | inr ne ↦ (runs_last 0 (Touches (spot_of this.to) (file_at (disk_of t).now this.from) (disk_of t)) t u b).now (spot_of row.to) ne ∙ done row earlier
        ]
        | inr same ↦ of_this same
      ]

pub puts_synced : (plan : Plan) (a d e : Disk) → Puts plan a d → Syncs d e → Puts plan a e
puts_synced plan a d e h s = record {
  valid = s.valid;
  files = same_files-trans a d e h.files s.files;
  held = λ x v held. h.held x v (s.held x v held);
  now = λ x unset. s.now x ∙ h.now x unset;
}

pub then_synced : (n : ℕ) (plan : Plan) (s t u : Story) → Runs 0 (Puts plan (disk_of s)) s t → Runs n (Syncs (disk_of t)) t u → Runs n (Puts plan (disk_of s)) s u
then_synced n plan s t u a b =
    let P = Puts plan (disk_of s) in
    let last = runs_last 0 P s t a in
    runs_then n P s t u a (runs_weaken n (Syncs (disk_of t)) P t u (λ e h. puts_synced plan (disk_of s) (disk_of t) e last h) b)
