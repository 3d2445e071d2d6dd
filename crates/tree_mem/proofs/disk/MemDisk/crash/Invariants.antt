use Rattle.std.proofs.Common.{◌≡◌, ◌==◌, ◌%◌, ◌+◌, ◌^◌, ◌<◌, false, [], map, length}
use Rattle.std.specs.List.{AllByRecursion}
use Rattle.tree_fs.specs.Spot.{Spot, spot_of}
use Rattle.tree_mem.specs.Disks.{item_of, is_folder}
use Rattle.tree_mem.specs.FileData.{file_left}
use Rattle.tree_mem.proofs.Played.{played}
use Rattle.tree_mem.proofs.disk.MemDisk.crash.Given as goal

abbrev pub invariant-loop-number : goal.invariant-loop-number
invariant-loop-number l = record {
  items : played l.self l.choices l.number l.at-iterator (item_of l.left) ≡ played l.self l.choices 0 l.initial.at-iterator (item_of l.self);
  plain : AllByRecursion (λ e. is_folder (item_of l.self (spot_of e.0)) ≡ false) l.at-iterator;
  count : l.number + length l.at-iterator < 2 ^ 63;
  folders : (q : Spot) → is_folder (item_of l.left q) ≡ is_folder (item_of l.self q);
  files : l.left.files.items ≡ map (file_left (length l.choices % 2 == 0)) l.self.files.items;
  pending : l.left.pending.items ≡ [];
}
