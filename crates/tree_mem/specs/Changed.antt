-- Disks with something more, or less, settled.
use Rattle.std.specs.Prelude.{ℕ, ◌+◌, true, false, not, List, []}
use Rattle.tree_fs.specs.Spot.{Spot, has_some}
use Rattle.tree_fs.specs.Disk.{Disk, Value, none, file, odd, set_at, set_number}

-- a disk with the three roots and nothing else
abbrev pub empty_disk : Disk
empty_disk = record {
  folders = λ q. not (has_some q.names);
  now = λ q. none;
  before = λ q. [];
  bytes = λ n. [];
  firm = λ n. true;
  fresh = 0;
}

-- the disk with one more file, which is firm
abbrev pub with_file : Disk → Spot → List ℕ → Disk
with_file d at bytes = record d {
  now = set_at d.now at (file d.fresh);
  bytes = set_number d.bytes d.fresh bytes;
  firm = set_number d.firm d.fresh true;
  fresh = d.fresh + 1;
}

-- the disk with one more name of the file at `from`
abbrev pub with_link : Disk → Spot → Spot → Disk
with_link d from to = record d { now = set_at d.now to (d.now from) }

-- the disk with one more folder
abbrev pub with_folder : Disk → Spot → Disk
with_folder d at = record d { folders = set_at d.folders at true }

-- the disk with one folder less
abbrev pub without_folder : Disk → Spot → Disk
without_folder d at = record d { folders = set_at d.folders at false }

-- the disk with one name of a file less
abbrev pub without_file : Disk → Spot → Disk
without_file d at = record d { now = set_at d.now at none }

-- the disk on which the file has other bytes, and is firm
abbrev pub edited : Disk → Value → List ℕ → Disk
edited d (file n) bytes = record d { bytes = set_number d.bytes n bytes; firm = set_number d.firm n true }
edited d none bytes = d
edited d odd bytes = d

-- the disk on which the place holds only what it holds now
abbrev pub settled_at : Disk → Spot → Disk
settled_at d at = record d { before = set_at d.before at [] }
