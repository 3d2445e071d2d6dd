-- When a step may run, and what it has done.
use Rattle.std.specs.Prelude.{◌≡◌, ℕ}
use Rattle.std.specs.List.{Contains}
use Rattle.std.specs.declared.option.Option.TheVariants.{Some}
use Rattle.tree_fs.specs.declared.place.Place.{Place}
use Rattle.tree_fs.specs.Spot.{Spot, spot_of}
use Rattle.tree_fs.specs.Disk.{Disk, none, file, IsFile, IsSettled, HoldsOnly}
use Rattle.tree_fs.specs.Calls.{IsFolder}
use Rattle.move_plan.specs.declared.plan.SetRow.{SetRow}
use Rattle.move_plan.specs.declared.plan.Plan.{Plan}
use Rattle.move_plan.specs.Places.{Has, IsClear}
use Rattle.intent_json.specs.declared.intent.Phase.{Phase}
use Rattle.intent_json.specs.declared.intent.Phase.TheVariants as phase
use Rattle.intent_json.specs.Forms.{bare_of}
use Rattle.desk_model.specs.Desk.{Desk, SameDesk}
use Rattle.desk_model.specs.Places.{profile_spot, intent_spot}
use Rattle.desk_model.specs.Outcome.{intent_by, file_at, outcome_now}
use Rattle.desk_model.specs.Standing.{SavesDone, Standing}

-- one form of a plan is the only value of the intent place
pub record StandsAlone (plan : Plan) (form : Phase) (d : Disk) : Type 0 where
  pub number : ℕ
  pub only : HoldsOnly d intent_spot (file number)
  pub text : intent_by d.bytes (file number) ≡ Some (record { phase = form; plan = plan })

-- recovery leads to the desk that it leads to on this disk
abbrev pub ToOutcomeOf : Disk → Desk → Type 0
ToOutcomeOf a k = SameDesk k (outcome_now a)

-- the saves may run
pub record SavesReady (plan : Plan) (d : Disk) : Type 0 where
  pub standing : Standing d
  pub profile : IsSettled d profile_spot
  pub form : StandsAlone plan phase.Set d

-- each folder to make is one
abbrev pub FoldersMade : Plan → Disk → Type 0
FoldersMade plan d = (x : Spot) → Has plan.folders x → IsFolder d x

-- the sets may run
pub record SetsReady (plan : Plan) (d : Disk) : Type 0 where
  pub standing : Standing d
  pub profile : IsSettled d profile_spot
  pub form : StandsAlone plan phase.Set d
  pub made : FoldersMade plan d
  pub saved : SavesDone d plan

-- the clears may run
pub record ClearsReady (plan : Plan) (d : Disk) : Type 0 where
  pub standing : Standing d
  pub profile : IsSettled d profile_spot
  pub form : StandsAlone (bare_of plan) phase.Clear d

-- a place has what it had
abbrev pub IsStill : Disk → Disk → Place → Type 0
IsStill a e p = e.now (spot_of p) ≡ a.now (spot_of p)

-- a save is done: its destination is a file
abbrev pub IsSaveDone : Disk → Place × Place → Type 0
IsSaveDone e save = IsFile e (spot_of save.1)

-- a set is done: its destination has the file that its source had, or none
abbrev pub IsSetDone : Disk → Disk → SetRow → Type 0
IsSetDone a e row = e.now (spot_of row.to) ≡ file_at a.now row.from

-- a clear is done: nothing is there
abbrev pub IsClearDone : Disk → Place → Type 0
IsClearDone e at = e.now (spot_of at) ≡ none

-- nothing has been done of a save, or of a set
abbrev pub SaveWaits : Disk → Disk → Place × Place → Type 0
SaveWaits a e save = IsStill a e save.1

abbrev pub SetWaits : Disk → Disk → SetRow → Type 0
SetWaits a e row = IsStill a e row.to

-- each set is done, and settled
abbrev pub SetsDone : Plan → Disk → Disk → Type 0
SetsDone plan a e =
    (row : SetRow) → Contains plan.sets row → HoldsOnly e (spot_of row.to) (file_at a.now row.from)

-- each clear is done, and settled
abbrev pub ClearsDone : Plan → Disk → Type 0
ClearsDone plan e = (x : Spot) → IsClear plan x → HoldsOnly e x none
