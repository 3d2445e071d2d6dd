-- Stories, and facts of every disk along them.
use Rattle.std.specs.Prelude.{◌≡◌, List, [], ◌∷◌, ◌++◌}
use Rattle.tree_fs.specs.declared.op.Op.{Op}
use Rattle.tree_fs.specs.Disk.{Disk, after, after_all}

-- the disk that a tree began with, and each step since
pub record Story : Type 0 where
  pub start : Disk
  pub ops : List Op

-- the disk that a story has come to
abbrev pub disk_of : Story → Disk
disk_of s = after_all s.start s.ops

abbrev pub with_ops : Story → List Op → Story
with_ops s ops = record { start = s.start; ops = s.ops ++ ops }

-- the fact holds of the disk before the steps, and after each of them
abbrev pub Through : (Disk → Type 0) → Disk → List Op → Type 0
Through P d [] = P d
Through P d (op ∷ ops) = P d × Through P (after d op) ops

-- the story goes on, and the fact holds of every disk along the way
pub record Along (P : Disk → Type 0) (old new : Story) : Type 0 where
  pub ops : List Op
  pub goes_on : new ≡ with_ops old ops
  pub each : Through P (disk_of old) ops
