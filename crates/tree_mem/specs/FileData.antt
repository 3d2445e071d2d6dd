-- Files as contracts see them.
use Rattle.std.specs.Prelude.{ℕ, Bool, true, ◌||◌, if◌then◌else◌, List, []}

-- a file as contracts see it
pub record FileData : Type 0 where
  pub bytes : List ℕ
  pub firm : Bool

-- the file after a stop, which keeps the bytes of one that isn't firm only where it is told to
abbrev pub file_left : Bool → FileData → FileData
file_left keeps f = record { bytes = if f.firm || keeps then f.bytes else []; firm = true }
