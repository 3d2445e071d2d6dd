use Rattle.std.proofs.Common.{◌<◌, sym, ap, subst, ◌∙◌, inl}
use Rattle.tree_fs.specs.Spot.{spot_of}
use Rattle.tree_fs.proofs.Parts.{bytes_at-file}
use Rattle.tree_mem.specs.Disks.{disk_in}
use Rattle.tree_mem.specs.FileData.{FileData}
use Rattle.tree_mem.proofs.Parts.{file_there}
use Rattle.tree_mem.proofs.disk.MemDisk.bytes.Goals as goal

pub index-requires : goal.index-requires
index-requires c = subst (λ k. c.file.result < k) (sym c.args.self.now.files.ok.0) (c.requires.valid.numbers (spot_of c.args.at.now) c.file.result (inl (sym c.file.ensures)))

pub returns : goal.returns
returns c =
    let d = c.args.self.now in
    let q = spot_of c.args.at.now in
    let n = c.file.result in
    c.bytes.ensures ∙ ap (λ (x : FileData). x.bytes) (c.index.ensures ∙ file_there d.files.items n _ (c.requires.valid.numbers q n (inl (sym c.file.ensures)))) ∙ sym (bytes_at-file (disk_in d) q n c.file.ensures)
