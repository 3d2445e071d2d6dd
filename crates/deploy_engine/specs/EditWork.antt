-- The edits of the profile: it is changed and written.
use Rattle.std.specs.Prelude.{◌≡◌, ◌≢◌, ◌⊎◌, ℕ, Bool, true, false, Ok, List, [], ◌∷◌, ◌++◌}
use Rattle.std.specs.declared.option.Option.TheVariants.{Some}
use Rattle.tree_fs.specs.Story.{Along, disk_of}
use Rattle.profile_toml.specs.Records.{ProfileData}
use Rattle.profile_toml.specs.Profiles.{profile_of}
use Rattle.profile_edit.specs.declared.edit.Edit.{Edit}
use Rattle.profile_edit.specs.Edits.{edited}
use Rattle.desk_model.specs.Desk.{desk}
use Rattle.desk_model.specs.Edited.{Edited}
use Rattle.desk_model.specs.History.{KeepsPlain}
use Rattle.desk_model.specs.Standing.{Standing}
use Rattle.intent_journal.specs.Counts.{SyncsAtMost}
use Rattle.plan_exec.specs.Ending.{StopsOldOrNew}
use Rattle.plan_run.specs.Quiet.{IsQuiet}
use Rattle.answer_lines.specs.declared.fixed.FixedLine.{FixedLine}
use Rattle.answer_lines.specs.declared.fixed.FixedLine.TheVariants.{ProfileWritten, ProfileUnchanged}
use Rattle.answer_lines.specs.Told.{fixed_line}
use Rattle.command_steps.specs.Profiles.{HasProfile}
use Rattle.command_steps.specs.Steps.{profile as reading, edit as making}
use Rattle.command_steps.specs.Orders.{change_start}
use Rattle.deploy_engine.specs.Works.{Course, Stays, Work, changing, NoGivingUp}

-- how the edited profile is written, which differs from the one before, by one text that reads as it
pub record GoesWriting (edit : Edit) (c : Course) : Type 0 where
  pub profile : ProfileData
  pub has_profile : HasProfile (disk_of c.base) profile
  pub differs : edited profile edit ≢ profile
  pub text : List ℕ
  pub reads : profile_of text ≡ Ok (edited profile edit)
  -- where the first disk stands, recovery of every stop leads to the old desk or to the one with
  -- this text
  pub stops : Standing (disk_of c.start)
      → StopsOldOrNew (Edited (disk_of c.base) (Some text)) c.base c.end
  -- the game folder without mods stays
  pub keeps : Standing (disk_of c.start) → Along (KeepsPlain (disk_of c.base)) c.base c.end
  pub syncs : SyncsAtMost 1 c.base c.end

-- how an edit goes: nothing is added behind the steps, or the edited profile is written
abbrev pub GoesEditing : Edit → Course → Type 0
GoesEditing edit c = Stays c ⊎ GoesWriting edit c

-- it is written: the desk at the end is the one to which the stops led
pub record HasWritten (edit : Edit) (c : Course) : Type 0 where
  pub writing : GoesWriting edit c
  pub desk_is : Standing (disk_of c.start)
      → Edited (disk_of c.base) (Some writing.text) (desk (disk_of c.end))

-- what an edit leaves
pub record LeavesEdited (edit : Edit) (c : Course) : Type 0 where
  pub profile : ProfileData
  pub has_profile : HasProfile (disk_of c.base) profile
  -- an edit that changes nothing writes nothing
  pub unchanged : edited profile edit ≡ profile → Stays c
  pub changed : edited profile edit ≢ profile → HasWritten edit c
  -- nothing is pending, and there is no intent and no temp
  pub quiet : Standing (disk_of c.start) → IsQuiet (disk_of c.end)

-- `profile written`, or `profile unchanged` where the edit changes nothing
pub record PrintsEdited (edit : Edit) (c : Course) (text : List ℕ) : Type 0 where
  pub profile : ProfileData
  pub has_profile : HasProfile (disk_of c.base) profile
  pub written : edited profile edit ≢ profile → text ≡ fixed_line ProfileWritten
  pub unchanged : edited profile edit ≡ profile → text ≡ fixed_line ProfileUnchanged

-- the line that tells whether the profile is written
abbrev pub line_of : Bool → FixedLine
line_of true = ProfileWritten
line_of false = ProfileUnchanged

abbrev pub edit_work : Edit → Work
edit_work edit =
    changing (change_start ++ reading ∷ making edit ∷ [])
    (LeavesEdited edit) (PrintsEdited edit) (GoesEditing edit) NoGivingUp
