-- What may be left of a command that is stopped.
use Rattle.std.specs.Prelude.{◌⊎◌, List}
use Rattle.tree_fs.specs.declared.op.Op.{Op}
use Rattle.tree_fs.specs.Disk.{Disk, Value, MayHold, IsSettled, Image}
use Rattle.tree_fs.specs.Story.{Through}
use Rattle.desk_model.specs.Places.{profile_spot, intent_spot}
use Rattle.desk_model.specs.Desk.{Desk, desk, SameDesk}
use Rattle.desk_model.specs.Outcome.{outcome, outcome_now}
use Rattle.desk_model.specs.Standing.{Standing}

-- recovery of this image leads to the old desk or to a new one
pub record LeadsToOldOrNew (a : Disk) (new : Desk → Type 0) (left : Disk) : Type 0 where
  pub standing : Standing left
  pub one_of : SameDesk (outcome_now left) (desk a) ⊎ new (outcome_now left)

-- it does so for every image after every prefix of the steps
abbrev pub OldOrNew : Disk → (Desk → Type 0) → List Op → Type 0
OldOrNew a new ops =
    Through (λ d. (left : Disk) → Image d left → LeadsToOldOrNew a new left) a ops

-- the disk stands, and recovery leads to such a desk, whatever a stop leaves
pub record Leads (To : Desk → Type 0) (d : Disk) : Type 0 where
  pub standing : Standing d
  pub profile : IsSettled d profile_spot
  pub each : (v : Value) → MayHold d intent_spot v → To (outcome d v)
