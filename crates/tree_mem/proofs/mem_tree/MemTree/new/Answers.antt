use Rattle.std.proofs.Common.{sym, ap, subst}
use Rattle.tree_fs.specs.Disk.{IsValid, after_all}
use Rattle.tree_mem.specs.Disks.{disk_in}
use Rattle.tree_mem.proofs.Valid.{valid_empty}
use Rattle.tree_mem.proofs.mem_tree.MemTree.new.Goals as goal

pub invariant_of-result : goal.invariant_of-result
invariant_of-result c = record { tells = sym (ap (after_all (disk_in c.new.result)) c.new-2.ensures.items); valid = subst IsValid (sym c.new.ensures) valid_empty }
