use Rattle.std.proofs.Common.{refl, not, rules}
use Rattle.std.proofs.lemmas.Fn.{filter_same}
use Rattle.tree_fs.specs.Spot.{spot_of, is_entry}
use Rattle.tree_mem.proofs.Parts.{disk_synced}
use Rattle.tree_mem.proofs.disk.MemDisk.sync.Goals as goal

pub returns : goal.returns
returns c =
    let d = c.args.self.now in
    disk_synced d (record { stage = d.stage; game = d.game; keep = d.keep; files = d.files; pending = c.retain.new.self }) (spot_of c.args.folder.now) (λ q. refl) refl
    (filter_same _ (λ p. not (is_entry (spot_of c.args.folder.now) (spot_of p.at))) _ (λ x b f t. search rules) _ _ c.retain.ensures.filtered)
