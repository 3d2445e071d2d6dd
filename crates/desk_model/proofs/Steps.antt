-- Steps that keep Standing keep each outcome.
use Rattle.std.proofs.Common.{inl, inr}
use Rattle.tree_fs.specs.declared.op.Op.{Op}
use Rattle.tree_fs.specs.Disk.{Disk, Value, MayHold, after}
use Rattle.tree_fs.specs.Frames.{IsGentle}
use Rattle.tree_fs.proofs.Fewer.{step-fewer}
use Rattle.desk_model.specs.Places.{intent_spot}
use Rattle.desk_model.specs.Outcome.{outcome}
use Rattle.desk_model.specs.Standing.{Standing}
use Rattle.desk_model.proofs.Agreeing.{Alike, No, alike-sym}
use Rattle.desk_model.proofs.Outcomes.{outcome-alike}

-- a gentle step between two standing disks keeps the outcome of each value that both may have
pub step-outcome : (d : Disk) (op : Op) → IsGentle d op → Standing d → Standing (after d op) → (v : Value) → MayHold d intent_spot v → MayHold (after d op) intent_spot v → Alike No (outcome (after d op) v) (outcome d v)
step-outcome d op gentle before behind v h k = elim (step-fewer d op gentle) [
  | inl grows ↦ alike-sym No _ _ (outcome-alike d (after d op) grows behind v k)
  | inr shrinks ↦ outcome-alike (after d op) d shrinks before v h
]
