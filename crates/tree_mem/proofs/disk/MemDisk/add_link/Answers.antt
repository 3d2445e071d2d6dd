use Rattle.tree_fs.specs.Spot.{spot_of}
use Rattle.tree_mem.proofs.Parts.{disk_link, on_ok}
use Rattle.tree_mem.proofs.disk.MemDisk.add_link.Goals as goal

pub returns-clause-ok : goal.returns-clause-ok
returns-clause-ok c =
    on_ok c.set_item.result (λ h. disk_link c.args.self.now c.set_item.new.self (spot_of c.args.from.now) (spot_of c.args.to.now) c.file-number.result h c.requires.target.no_folder c.file-number.ensures) c.set_item.ensures.ok
