use Rattle.std.proofs.Common.{refl, sym, ◌∙◌}
use Rattle.tree_fs.specs.Spot.{spot_of}
use Rattle.tree_mem.specs.declared.disk.MemDisk.{MemDisk}
use Rattle.tree_mem.proofs.Parts.{disk_created, disk_same, from_ok, from_err, pushed_popped}
use Rattle.tree_mem.proofs.disk.MemDisk.create.Goals as goal

pub returns-then-is_err-clause-err : goal.returns-then-is_err-clause-err
returns-then-is_err-clause-err c =
    let e = c.put_file.new.self in
    let s = from_err c.put_file.result (sym c.is_err.ensures.value ∙ c.if-is_err.true) c.put_file.ensures.err in
    disk_same c.args.self.now (record { stage = e.stage; game = e.game; keep = e.keep; files = c.pop.new.self; pending = e.pending }) record {
      items = λ q. s.items q;
      files = pushed_popped c.args.self.now.files.items e.files.items c.pop.new.self.items _ _ (s.files ∙ c.in_ok-push.ensures.items) e.files.ok.0 c.pop.ensures.rest;
      pending = s.pending;
    }

pub returns-clause-ok : goal.returns-clause-ok
returns-clause-ok c =
    let d = c.args.self.now in
    let at = spot_of c.args.at.now in
    let pushed : MemDisk = record { stage = d.stage; game = d.game; keep = d.keep; files = c.push.new.self; pending = d.pending } in
    disk_created d pushed c.put_file.new.self at c.empty.result c.len-number.result (λ q. refl) c.in_ok-push.ensures.items refl c.empty.ensures (c.len-number.ensures ∙ d.files.ok.0)
    (from_ok c.put_file.result (sym c.is_err.ensures.value ∙ c.if-is_err.false) c.put_file.ensures.ok)
