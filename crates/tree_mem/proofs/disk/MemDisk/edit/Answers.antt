use Rattle.std.proofs.Common.{◌<◌, true, refl, sym, ap, subst, ◌∙◌, inl}
use Rattle.std.specs.Vec.{with_item}
use Rattle.std.proofs.Math.ListN.{set}
use Rattle.tree_mem.specs.Changed.{edited}
use Rattle.tree_fs.specs.Spot.{spot_of}
use Rattle.tree_mem.specs.declared.disk.MemDisk.{MemDisk}
use Rattle.tree_mem.specs.Disks.{disk_in}
use Rattle.tree_mem.proofs.Parts.{disk_edited}
use Rattle.tree_mem.proofs.disk.MemDisk.edit.Goals as goal

pub index_mut-file-requires : goal.index_mut-file-requires
index_mut-file-requires c = subst (λ k. c.file-number.result < k) (sym c.args.self.now.files.ok.0) (c.requires.valid.numbers (spot_of c.args.at.now) c.file-number.result (inl (sym c.file-number.ensures)))

pub returns-clause-ok : goal.returns-clause-ok
returns-clause-ok c =
    let d = c.args.self.now in
    let n = c.file-number.result in
    let e : MemDisk = record { stage = d.stage; game = d.game; keep = d.keep; files = with_item d.files n c.edit.new.self; pending = d.pending } in
    disk_edited d e n c.args.bytes.now (λ q. refl) (ap (set d.files.items n) (c.edit.ensures ∙ (λ i. record { bytes = c.in_ok-bytes.ensures.items_if_clones_equal (λ x y same. same) i; firm = true }))) refl
    (c.requires.valid.numbers (spot_of c.args.at.now) n (inl (sym c.file-number.ensures)))
    ∙ ap (λ v. edited (disk_in d) v c.args.bytes.now) (sym c.file-number.ensures)
