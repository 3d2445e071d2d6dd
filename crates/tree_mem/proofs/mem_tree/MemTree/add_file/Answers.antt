use Rattle.std.proofs.Common.{sym, ap, subst, ◌∙◌}
use Rattle.tree_fs.specs.Disk.{Disk, IsValid, after_all}
use Rattle.tree_mem.specs.Changed.{with_file, settled_at}
use Rattle.tree_fs.specs.Spot.{spot_of}
use Rattle.tree_mem.specs.Disks.{disk_in}
use Rattle.tree_fs.specs.Calls.{CanPut}
use Rattle.tree_mem.proofs.Valid.{valid_file, valid_settled}
use Rattle.tree_mem.proofs.mem_tree.MemTree.add_file.Goals as goal

pub invariant_of-self-2 : goal.invariant_of-self-2
invariant_of-self-2 c =
    let t = c.args.self.now.tells in
    let at = spot_of c.args.at.now in
    let put = with_file (disk_in c.args.self.now.disk) (spot_of c.args.at.now) c.args.bytes.now in
    record {
      tells = sym (ap (after_all (disk_in c.settle.new.self)) c.clear.ensures.items);
      valid = subst IsValid (sym (c.settle.ensures ∙ ap (λ (d : Disk). settled_at d at) c.in_ok-add_file.ensures.ok)) (valid_settled put at (valid_file (disk_in c.args.self.now.disk) (spot_of c.args.at.now) c.args.bytes.now c.args.self.now.valid (subst (λ d. CanPut d (spot_of c.args.at.now)) (sym t) c.requires)));
    }
