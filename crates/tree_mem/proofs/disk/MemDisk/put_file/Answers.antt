use Rattle.std.proofs.Common.{Some, refl, sym, ap, ◌∙◌}
use Rattle.tree_fs.specs.Spot.{spot_of}
use Rattle.tree_mem.specs.declared.entries.Item.TheVariants.{File}
use Rattle.tree_mem.proofs.Parts.{disk_put, from_ok, from_err, pushed_popped}
use Rattle.tree_mem.proofs.disk.MemDisk.put_file.Goals as goal

pub returns-then-is_err-clause-err : goal.returns-then-is_err-clause-err
returns-then-is_err-clause-err c =
    let e = c.set_item.new.self in
    let s = from_err c.set_item.result (sym c.is_err.ensures.value ∙ c.if-is_err.true) c.set_item.ensures.err in
    record {
      items = λ q. s.items q;
      files = s.files;
      pending = pushed_popped c.args.self.now.pending.items e.pending.items c.pop.new.self.items _ _ (s.pending ∙ c.in_ok-push.ensures.items) e.pending.ok.0 c.pop.ensures.rest;
    }

pub returns-clause-ok : goal.returns-clause-ok
returns-clause-ok c =
    let h = from_ok c.set_item.result (sym c.is_err.ensures.value ∙ c.if-is_err.false) c.set_item.ensures.ok in
    disk_put c.args.self.now c.set_item.new.self (spot_of c.args.at.now) (record { at = c.in_ok-copy.field-0; item = c.item.result }) (Some (File c.args.number)) h.here (λ q ne. h.others q ne) h.files
    (h.pending ∙ c.in_ok-push.ensures.items) (ap spot_of c.in_ok-copy.ensures) c.item.ensures c.requires refl
