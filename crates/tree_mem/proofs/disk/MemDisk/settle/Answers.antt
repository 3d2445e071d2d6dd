use Rattle.std.proofs.Common.{refl, not, rules}
use Rattle.std.proofs.lemmas.Fn.{filter_same}
use Rattle.tree_fs.specs.Spot.{spot_of, spot_eq}
use Rattle.tree_mem.specs.declared.disk.MemDisk.{MemDisk}
use Rattle.tree_mem.proofs.Parts.{disk_settled}
use Rattle.tree_mem.proofs.disk.MemDisk.settle.Goals as goal

pub returns : goal.returns
returns c =
    let d = c.args.self.now in
    let e : MemDisk = record { stage = d.stage; game = d.game; keep = d.keep; files = d.files; pending = c.retain.new.self } in
    disk_settled d e (spot_of c.args.at.now) (λ q. refl) refl
    (filter_same _ (λ p. not (spot_eq (spot_of c.args.at.now) (spot_of p.at))) _ (λ x b f t. search rules) _ _ c.retain.ensures.filtered)
