-- Runs with few syncs of folders.
use Rattle.std.specs.Prelude.{ℕ}
use Rattle.tree_fs.specs.Disk.{Disk}
use Rattle.tree_fs.specs.Story.{Story, Along}
use Rattle.intent_journal.specs.Counts.{SyncsAtMost}

-- the story goes on with at most so many syncs of folders, and the fact holds of every disk along
-- the way
pub record Runs (most : ℕ) (P : Disk → Type 0) (old new : Story) : Type 0 where
  pub along : Along P old new
  pub syncs : SyncsAtMost most old new
