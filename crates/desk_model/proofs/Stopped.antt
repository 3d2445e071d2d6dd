-- From what each step keeps to what each stop leaves.
use Rattle.std.proofs.Common.{◌⊎◌, List, refl, inl, inr}
use Rattle.tree_fs.specs.declared.op.Op.{Op}
use Rattle.tree_fs.specs.Disk.{Disk, Value, MayHold, Image, after, IsSettled}
use Rattle.tree_fs.specs.Story.{Through}
use Rattle.tree_fs.proofs.Moments.{through_weaken}
use Rattle.desk_model.specs.Desk.{Desk, desk, SameDesk}
use Rattle.desk_model.specs.Places.{profile_spot, intent_spot}
use Rattle.desk_model.specs.Outcome.{outcome}
use Rattle.desk_model.specs.Standing.{Standing}
use Rattle.desk_model.specs.Stops.{Leads, LeadsToOldOrNew, OldOrNew}
use Rattle.tree_fs.specs.Frames.{IsGentle}
use Rattle.tree_fs.proofs.Fewer.{image-fewer, step-fewer}
use Rattle.desk_model.proofs.Kept.{image-standing}
use Rattle.desk_model.proofs.Named.{outcome-fewer, image-outcome}
use Rattle.desk_model.proofs.SameDesks.{same_trans, same_sym}

-- a gentle step between two standing disks, whose profile's place is settled, keeps the outcome of each value that both may have
pub step-same_outcome : (d : Disk) (op : Op) → IsGentle d op → Standing d → Standing (after d op) → IsSettled d profile_spot → IsSettled (after d op) profile_spot → (v : Value) → MayHold d intent_spot v → MayHold (after d op) intent_spot v
    → SameDesk (outcome (after d op) v) (outcome d v)
step-same_outcome d op gentle before behind settled settled_still v h k = elim (step-fewer d op gentle) [
  | inl grows ↦ same_sym _ _ (outcome-fewer d (after d op) grows behind settled_still v k)
  | inr shrinks ↦ outcome-fewer (after d op) d shrinks before settled v h
]

abbrev pub IsOldOr : Disk → (Desk → Type 0) → Desk → Type 0
IsOldOr a new k = SameDesk k (desk a) ⊎ new k

pub leads-image : (a : Disk) (new : Desk → Type 0) (d left : Disk) → ((k l : Desk) → SameDesk k l → new l → new k) → Leads (IsOldOr a new) d → Image d left → LeadsToOldOrNew a new left
leads-image a new d left closed leads image =
    let less = image-fewer d left leads.standing.valid image in
    let same = image-outcome d left leads.standing leads.profile image in
    record {
      standing = image-standing d left leads.standing image;
      one_of = elim (leads.each (left.now intent_spot) (less.within intent_spot (left.now intent_spot) (inl refl))) [
        | inl old ↦ inl (same_trans _ _ _ same old)
        | inr is ↦ inr (closed _ _ same is)
      ];
    }

-- what leads to the old desk or a new one at every disk along the steps, does so after every stop
pub old_or_new : (a : Disk) (new : Desk → Type 0) (ops : List Op) → ((k l : Desk) → SameDesk k l → new l → new k) → Through (Leads (IsOldOr a new)) a ops → OldOrNew a new ops
old_or_new a new ops closed leads = through_weaken (Leads (IsOldOr a new)) _ a ops (λ d h left image. leads-image a new d left closed h image) leads
