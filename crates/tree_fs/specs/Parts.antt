-- A file's bytes, and what a read of a part of them gives.
use Rattle.std.specs.Prelude.{◌≡◌, ℕ, ◌≤◌, List, [], length, take, drop}
use Rattle.tree_fs.specs.Spot.{Spot}
use Rattle.tree_fs.specs.Disk.{Disk, Value, none, file, odd}

abbrev pub bytes_of : Disk → Value → List ℕ
bytes_of d none = []
bytes_of d (file n) = d.bytes n
bytes_of d odd = []

-- the bytes of the file at a place
abbrev pub bytes_at : Disk → Spot → List ℕ
bytes_at d q = bytes_of d (d.now q)

-- at most so many bytes from a position, and none just where it is at the end or past it
pub record IsPart (bytes : List ℕ) (from most : ℕ) (part : List ℕ) : Type 0 where
  pub fits : length part ≤ most
  pub there : part ≡ take (length part) (drop from bytes)
  pub ends : part ≡ [] → length bytes ≤ from
