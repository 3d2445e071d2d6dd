use Rattle.std.proofs.Common.{sym, ap, subst}
use Rattle.tree_fs.specs.Disk.{IsValid, after_all}
use Rattle.tree_mem.specs.Disks.{disk_in}
use Rattle.tree_mem.specs.Outside.{CanChange}
use Rattle.tree_mem.proofs.Others.{valid_changed}
use Rattle.tree_mem.proofs.mem_tree.MemTree.outside.Goals as goal

pub invariant_of-self-2 : goal.invariant_of-self-2
invariant_of-self-2 c =
    let t = c.args.self.now.tells in
    let step = c.args.step.now in
    record {
      tells = sym (ap (after_all (disk_in c.change.new.self)) c.clear.ensures.items);
      valid = subst IsValid (sym c.in_ok-change.ensures.ok) (valid_changed (disk_in c.args.self.now.disk) step c.args.self.now.valid (subst (λ d. CanChange d step) (sym t) c.requires));
    }
