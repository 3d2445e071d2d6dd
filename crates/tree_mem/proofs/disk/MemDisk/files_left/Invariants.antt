use Rattle.std.proofs.Common.{◌≡◌, map, take}
use Rattle.tree_mem.specs.FileData.{file_left}
use Rattle.tree_mem.proofs.disk.MemDisk.files_left.Given as goal

abbrev pub invariant-loop-file : goal.invariant-loop-file
invariant-loop-file l = l.files.items ≡ map (file_left l.keeps) (take l.file-index l.self.files.items)
