-- Disks at which a command may begin to act.
use Rattle.std.specs.Prelude.{◌≡◌}
use Rattle.tree_fs.specs.declared.name.Kind.TheVariants.{Absent}
use Rattle.tree_fs.specs.Spot.{Spot}
use Rattle.tree_fs.specs.Disk.{Disk, IsSettled, kind_of}
use Rattle.desk_model.specs.Places.{intent_spot}
use Rattle.desk_model.specs.Desk.{Desk, desk, SameDesk}
use Rattle.desk_model.specs.Standing.{Standing}
use Rattle.plan_exec.specs.Ending.{NoTemps}

-- the disk stands with nothing pending, without an intent and without temps
pub record IsQuiet (a : Disk) : Type 0 where
  pub standing : Standing a
  pub settled : (x : Spot) → IsSettled a x
  pub no_intent : kind_of a intent_spot ≡ Absent
  pub no_temps : NoTemps a

-- the desk of this disk
abbrev pub IsDeskOf : Disk → Desk → Type 0
IsDeskOf a k = SameDesk k (desk a)
