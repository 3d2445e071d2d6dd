-- The disk that a story began with.
use Rattle.std.specs.declared.option.Option.{Option}
use Rattle.std.specs.declared.option.Option.TheVariants.{None, Some}
use Rattle.tree_fs.specs.Disk.{Disk}
use Rattle.tree_mem.specs.declared.disk.MemDisk.{MemDisk}
use Rattle.tree_mem.specs.Disks.{disk_in}

-- the disk that a story began with, which is the present one where no other is kept
abbrev pub start_in : Option MemDisk → MemDisk → Disk
start_in None disk = disk_in disk
start_in (Some start) disk = disk_in start
