use Rattle.std.proofs.Common.{None, refl, ap, ◌∙◌}
use Rattle.tree_fs.specs.Spot.{spot_of}
use Rattle.tree_mem.proofs.Parts.{disk_put, file-no_folder}
use Rattle.tree_mem.proofs.disk.MemDisk.unlink.Goals as goal

pub returns-clause-ok : goal.returns-clause-ok
returns-clause-ok c =
    let h = c.remove_item.ensures in
    let d = c.args.self.now in
    let at = spot_of c.args.at.now in
    disk_put d c.remove_item.new.self at (record { at = c.in_ok-copy.field-0; item = c.item.result }) None h.here (λ q ne. h.others q ne) h.files (h.pending ∙ c.in_ok-push.ensures.items) (ap spot_of c.in_ok-copy.ensures) c.item.ensures
    (file-no_folder d at c.requires.0 c.requires.1) refl
