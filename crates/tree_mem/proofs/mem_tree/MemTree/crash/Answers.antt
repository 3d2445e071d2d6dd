use Rattle.std.proofs.Common.{sym, ap, subst}
use Rattle.tree_fs.specs.Disk.{Image, after_all}
use Rattle.tree_fs.proofs.Images.{Image-valid}
use Rattle.tree_mem.specs.Disks.{disk_in}
use Rattle.tree_mem.proofs.Crashes.{image}
use Rattle.tree_mem.proofs.mem_tree.MemTree.crash.Goals as goal

pub invariant_of-result : goal.invariant_of-result
invariant_of-result c =
    let d = disk_in c.args.self.now.disk in
    let left = disk_in c.in_ok-crash.field-0 in
    record { tells = sym (ap (after_all left) c.new.ensures.items); valid = Image-valid d left c.args.self.now.valid (image c.args.choices.now d left c.in_ok-crash.ensures) }

pub returns-clause-image : goal.returns-clause-image
returns-clause-image c =
    let d = disk_in c.args.self.now.disk in
    let left = disk_in c.in_ok-crash.field-0 in
    subst (λ x. Image x (after_all left c.new.result.items)) c.args.self.now.tells
    (subst (λ ops. Image d (after_all left ops)) (sym c.new.ensures.items) (image c.args.choices.now d left c.in_ok-crash.ensures))
