use Rattle.std.proofs.Common.{◌<◌, length, true, refl, sym, ap, subst, ◌∙◌, inl}
use Rattle.std.specs.Vec.{with_item}
use Rattle.std.proofs.Math.ListN.{set}
use Rattle.tree_fs.specs.Disk.{made_firm}
use Rattle.tree_fs.specs.Spot.{spot_of}
use Rattle.tree_mem.specs.declared.disk.MemDisk.{MemDisk}
use Rattle.tree_mem.specs.Disks.{disk_in}
use Rattle.tree_mem.specs.FileData.{FileData}
use Rattle.tree_mem.proofs.Parts.{disk_made_firm, file_there}
use Rattle.tree_mem.proofs.disk.MemDisk.sync_file.Goals as goal

pub index_mut-file-requires : goal.index_mut-file-requires
index_mut-file-requires c = subst (λ k. c.file-number.result < k) (sym c.args.self.now.files.ok.0) (c.requires.valid.numbers (spot_of c.args.at.now) c.file-number.result (inl (sym c.file-number.ensures)))

pub returns : goal.returns
returns c =
    let d = c.args.self.now in
    let n = c.file-number.result in
    let l : n < length d.files.items = c.requires.valid.numbers (spot_of c.args.at.now) n (inl (sym c.file-number.ensures)) in
    let e : MemDisk = record { stage = d.stage; game = d.game; keep = d.keep; files = with_item d.files n c.make_firm.new.self; pending = d.pending } in
    let firm : FileData → FileData = λ x. record { bytes = x.bytes; firm = true } in
    disk_made_firm d e n (λ q. refl) (ap (set d.files.items n) (c.make_firm.ensures ∙ ap firm (c.index_mut-file.ensures.value ∙ file_there d.files.items n _ l))) refl l
    ∙ ap (made_firm (disk_in d)) (sym c.file-number.ensures)
