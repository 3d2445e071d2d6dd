use Rattle.std.proofs.Common.{refl, sym, ap, ◌∙◌}
use Rattle.tree_fs.specs.Spot.{spot_of}
use Rattle.tree_mem.specs.declared.disk.MemDisk.{MemDisk}
use Rattle.tree_mem.proofs.Moves.{disk_moved}
use Rattle.tree_mem.proofs.Parts.{disk_same, from_ok, from_err, pushed_popped, file-no_folder}
use Rattle.tree_mem.proofs.disk.MemDisk.move_file.Goals as goal

pub returns-then-is_err-clause-err : goal.returns-then-is_err-clause-err
returns-then-is_err-clause-err c =
    let e = c.put_file.new.self in
    let s = from_err c.put_file.result (sym c.is_err.ensures.value ∙ c.if-is_err.true) c.put_file.ensures.err in
    disk_same c.args.self.now (record { stage = e.stage; game = e.game; keep = e.keep; files = e.files; pending = c.pop.new.self }) record {
      items = λ q. s.items q;
      files = s.files;
      pending = pushed_popped c.args.self.now.pending.items e.pending.items c.pop.new.self.items _ _ (s.pending ∙ c.in_ok-push.ensures.items) e.pending.ok.0 c.pop.ensures.rest;
    }

pub returns-clause-ok : goal.returns-clause-ok
returns-clause-ok c =
    let d = c.args.self.now in
    let from = spot_of c.args.from.now in
    let pushed : MemDisk = record { stage = d.stage; game = d.game; keep = d.keep; files = d.files; pending = c.push.new.self } in
    disk_moved d pushed c.put_file.new.self c.remove_item.new.self from (spot_of c.args.to.now) (record { at = c.in_ok-copy.field-0; item = c.item.result }) c.file-number.result (λ q. refl) refl c.in_ok-push.ensures.items
    (ap spot_of c.in_ok-copy.ensures) c.item.ensures (from_ok c.put_file.result (sym c.is_err.ensures.value ∙ c.if-is_err.false) c.put_file.ensures.ok) c.remove_item.ensures c.file-number.ensures
    (file-no_folder d from c.file-number.result c.file-number.ensures) c.requires.apart
