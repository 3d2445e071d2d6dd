use Rattle.std.proofs.Common.{take}
use Rattle.tree_mem.specs.Groups.{IsGrouped}
use Rattle.tree_mem.proofs.disk.MemDisk.groups.Given as goal

abbrev pub invariant-loop-past : goal.invariant-loop-past
invariant-loop-past l = IsGrouped l.self (take l.past-index l.self.pending.items) l.groups
