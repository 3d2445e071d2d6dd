-- The clears, one after the other.
use Rattle.std.proofs.Common.{◌≡◌, ℕ, ◌+◌, ◌<◌, List, length, get_or, take, refl, sym, ◌∙◌, inl, inr, subst}
use Rattle.std.specs.List.{Contains}
use Rattle.tree_fs.specs.declared.place.Place.{Place}
use Rattle.tree_fs.specs.Spot.{spot_of}
use Rattle.tree_fs.specs.Disk.{Disk, none, MayHold, IsValid}
use Rattle.tree_fs.specs.Story.{Story, disk_of}
use Rattle.plan_exec.specs.Counts.{Runs}
use Rattle.plan_exec.proofs.Runs.{runs_then, runs_trans, runs_last, runs_weaken}
use Rattle.tree_fs.proofs.Spots.{same_or_other}
use Rattle.move_plan.specs.declared.plan.Plan.{Plan}
use Rattle.plan_exec.specs.Frames.{Clears}
use Rattle.tree_fs.specs.Frames.{Touches, Syncs}
use Rattle.tree_fs.proofs.Ops.{same_files}
use Rattle.tree_fs.proofs.Frames.{same_files-trans}
use Rattle.list_laws.proofs.Containing.{in_next}

pub clears_same : (plan : Plan) (d : Disk) → IsValid d → Clears plan d d
clears_same plan d valid = record { valid = valid; files = same_files d; held = λ x v h. inl h; now = λ x unset. refl }

pub clears_more : (plan : Plan) (a d e : Disk) (p : Place) → Contains plan.clears p → Clears plan a d → Touches (spot_of p) none d e → Clears plan a e
clears_more plan a d e p listed h t = record {
  valid = t.valid;
  files = same_files-trans a d e h.files t.files;
  held = λ x v held. elim (same_or_other x (spot_of p)) [
    | inl same ↦ elim (t.own v (subst (λ y. MayHold e y v) same held)) [
      | inl old ↦ h.held x v (subst (λ y. MayHold d y v) (sym same) old)
      | inr new ↦ inr (record { place = p; listed = listed; here = sym same }, elim new [ inl gone ↦ gone | inr gone ↦ gone ])
    ]
    | inr ne ↦ h.held x v (t.others x v ne held)
  ];
  now = λ x unset. t.now x (λ e. unset (record { place = p; listed = listed; here = sym e })) ∙ h.now x unset;
}

pub one_clear : (plan : Plan) (s t u : Story) (p : Place) → Contains plan.clears p → Runs 0 (Clears plan (disk_of s)) s t → Runs 0 (Touches (spot_of p) none (disk_of t)) t u → Runs 0 (Clears plan (disk_of s)) s u
one_clear plan s t u p listed a b =
    let P = Clears plan (disk_of s) in
    let last = runs_last 0 P s t a in
    runs_trans 0 0 P s t u a (runs_weaken 0 (Touches (spot_of p) none (disk_of t)) P t u (λ e h. clears_more plan (disk_of s) (disk_of t) e p listed last h) b)

pub clear_next : (places : List Place) (i : ℕ) (this : Place) (t u : Story) → i < length places → this ≡ get_or places i this → Runs 0 (Touches (spot_of this) none (disk_of t)) t u
    → ((p : Place) → Contains (take i places) p → (disk_of t).now (spot_of p) ≡ none) → (disk_of u).now (spot_of this) ≡ none
    → (p : Place) → Contains (take (i + 1) places) p → (disk_of u).now (spot_of p) ≡ none
clear_next places i this t u lt is b done now p c = elim (in_next places i this p lt is c) [
  | inl earlier ↦ elim (same_or_other (spot_of p) (spot_of this)) [
    | inl same ↦ subst (λ x. (disk_of u).now x ≡ none) (sym same) now
    | inr ne ↦ (runs_last 0 (Touches (spot_of this) none (disk_of t)) t u b).now (spot_of p) ne ∙ done p earlier
  ]
  | inr same ↦ subst (λ q. (disk_of u).now (spot_of q) ≡ none) (sym same) now
]

pub clears_synced : (plan : Plan) (a d e : Disk) → Clears plan a d → Syncs d e → Clears plan a e
clears_synced plan a d e h s = record {
  valid = s.valid;
  files = same_files-trans a d e h.files s.files;
  held = λ x v held. h.held x v (s.held x v held);
  now = λ x unset. s.now x ∙ h.now x unset;
}

pub then_synced : (n : ℕ) (plan : Plan) (s t u : Story) → Runs 0 (Clears plan (disk_of s)) s t → Runs n (Syncs (disk_of t)) t u → Runs n (Clears plan (disk_of s)) s u
then_synced n plan s t u a b =
    let P = Clears plan (disk_of s) in
    let last = runs_last 0 P s t a in
    runs_then n P s t u a (runs_weaken n (Syncs (disk_of t)) P t u (λ e h. clears_synced plan (disk_of s) (disk_of t) e last h) b)
