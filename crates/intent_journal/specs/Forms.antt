-- What the intent place holds, and when one value of it may give way to another.
use Rattle.std.specs.Prelude.{◌≡◌, ◌⊎◌, ℕ, List}
use Rattle.std.specs.declared.option.Option.{Option}
use Rattle.std.specs.declared.option.Option.TheVariants.{None, Some}
use Rattle.tree_fs.specs.Disk.{Disk, Value, none, MayHold, IsValid, IsSettled}
use Rattle.move_plan.specs.Places.{Has}
use Rattle.intent_json.specs.declared.intent.Intent.{Intent}
use Rattle.intent_json.specs.declared.intent.Phase.TheVariants as phase
use Rattle.desk_model.specs.Places.{intent_spot, profile_spot}
use Rattle.desk_model.specs.Desk.{Desk, SameDesk, SameDeskBut}
use Rattle.desk_model.specs.Outcome.{intent_by, outcome_by}
use Rattle.desk_model.specs.Standing.{NoneStands, IntentStands, Standing}
use Rattle.intent_journal.specs.declared.temp.Temp.TheVariants as temp
use Rattle.intent_journal.specs.Temps.{temp_spot, with_temp, IsFileOrAbsent, IsFirmBut, Beside, Temped, IsWritten}

-- a value is no intent, or this one
abbrev pub Reads : (ℕ → List ℕ) → Value → Option Intent → Type 0
Reads bytes v None = v ≡ none
Reads bytes v (Some intent) = intent_by bytes v ≡ Some intent

-- the intent place holds this alone
abbrev pub HoldsForm : Option Intent → Disk → Type 0
HoldsForm form d = (v : Value) → MayHold d intent_spot v → Reads d.bytes v form

-- where the intent may be written anew
pub record CanChange (d : Disk) : Type 0 where
  pub temp : IsFileOrAbsent d (temp_spot temp.Intent)
  pub place : IsFileOrAbsent d intent_spot

-- once an intent with this text is written to its temp, the disk stands with that file at the
-- intent place too
abbrev pub StandsWith : List ℕ → Disk → Type 0
StandsWith text d =
    (e : Disk) → Temped temp.Intent d e → IsWritten temp.Intent text e
    → Standing (with_temp temp.Intent e)

-- only the intent place and its temp change, and each value of the intent place is the old one or
-- the new one
pub record BetweenForms (old new : Option Intent) (a e : Disk) : Type 0 where
  pub beside : Beside temp.Intent a e
  pub each : (v : Value) → MayHold e intent_spot v → Reads e.bytes v old ⊎ Reads e.bytes v new

-- no intent, or this one, may stand
abbrev pub FormStands : Disk → Option Intent → Type 0
FormStands d None = NoneStands d
FormStands d (Some intent) = IntentStands d intent

-- a clear form leads where the other leads, but for its folders to take off
abbrev pub ClearAgrees : Disk → Option Intent → Option Intent → Type 0
ClearAgrees d None other = Unit {0}
ClearAgrees d (Some intent) other =
    intent.phase ≡ phase.Clear
    → SameDeskBut (Has intent.plan.folders_off) (outcome_by d (Some intent)) (outcome_by d other)

-- the one and the other may stand on this disk, and may both come back
pub record BothStand (old new : Option Intent) (d : Disk) : Type 0 where
  pub valid : IsValid d
  pub firm : IsFirmBut d
  pub profile : IsSettled d profile_spot
  pub old_stands : FormStands d old
  pub new_stands : FormStands d new
  pub one_plain : (outcome_by d old).plain ≡ (outcome_by d new).plain
  pub old_clear : ClearAgrees d old new
  pub new_clear : ClearAgrees d new old

-- recovery leads where the one or the other leads
abbrev pub ToEither : Disk → Option Intent → Option Intent → Desk → Type 0
ToEither d old new k = SameDesk k (outcome_by d old) ⊎ SameDesk k (outcome_by d new)
