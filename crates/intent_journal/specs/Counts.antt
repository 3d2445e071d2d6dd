-- How many of some steps sync a folder.
use Rattle.std.specs.Prelude.{◌≡◌, ℕ, ◌≤◌, Bool, true, false, List, length}
use Rattle.std.specs.List.{filter}
use Rattle.tree_fs.specs.declared.op.Op.{Op}
use Rattle.tree_fs.specs.declared.op.Op.TheVariants.{SyncFolder}
use Rattle.tree_fs.specs.Story.{Story, with_ops}
use Rattle.intent_journal.specs.declared.temp.Temp.{Temp}
use Rattle.intent_journal.specs.declared.temp.Temp.TheVariants.{Intent, Manifest, Profile}

-- whether a step is the sync of a folder
abbrev pub is_sync : Op → Bool
is_sync (SyncFolder at done) = true
is_sync _ = false

-- the story goes on with at most so many syncs of folders
pub record SyncsAtMost (most : ℕ) (old new : Story) : Type 0 where
  pub ops : List Op
  pub goes_on : new ≡ with_ops old ops
  pub count : length (filter is_sync ops) ≤ most

-- how many folders a temp and its place lie in
abbrev pub folder_count : Temp → ℕ
folder_count Intent = 1
folder_count Manifest = 2
folder_count Profile = 1
