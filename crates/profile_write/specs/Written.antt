-- What writing the profile leads to.
use Rattle.std.specs.Prelude.{◌≡◌, ℕ, List, Ok}
use Rattle.std.specs.declared.option.Option.TheVariants.{Some}
use Rattle.tree_fs.specs.Disk.{Disk}
use Rattle.tree_fs.specs.Story.{Story, Along, disk_of}
use Rattle.profile_toml.specs.Records.{ProfileData}
use Rattle.profile_toml.specs.Profiles.{profile_of}
use Rattle.desk_model.specs.Desk.{desk}
use Rattle.desk_model.specs.Edited.{Edited}
use Rattle.desk_model.specs.History.{KeepsPlain}
use Rattle.intent_journal.specs.Counts.{SyncsAtMost}
use Rattle.plan_exec.specs.Ending.{StopsOldOrNew}
use Rattle.plan_run.specs.Quiet.{IsQuiet}

-- the profile has this text, and all else of the desk is as it was; the disk is quiet
pub record Written (text : List ℕ) (a e : Disk) : Type 0 where
  pub desk : Edited a (Some text) (desk e)
  pub quiet : IsQuiet e

-- a profile is being written, by one text: recovery of every stop leads to the old desk or to the
-- one with this text, and the game folder without mods stays
pub record Puts (profile : ProfileData) (old new : Story) : Type 0 where
  pub text : List ℕ
  pub reads : profile_of text ≡ Ok profile
  pub stops : IsQuiet (disk_of old)
      → StopsOldOrNew (Edited (disk_of old) (Some text)) old new
  pub keeps : IsQuiet (disk_of old) → Along (KeepsPlain (disk_of old)) old new
  pub syncs : SyncsAtMost 1 old new

-- it is written
pub record PutsWhole (profile : ProfileData) (old new : Story) : Type 0 where
  pub puts : Puts profile old new
  pub written : IsQuiet (disk_of old) → Written puts.text (disk_of old) (disk_of new)
