use Rattle.std.proofs.Common.{sym, ap, ◌∙◌, ◌++◌, ◌∷◌, [], Some}
use Rattle.tree_fs.specs.Spot.{spot_of}
use Rattle.tree_mem.specs.declared.entries.Item.TheVariants.{File}
use Rattle.tree_mem.proofs.Parts.{disk_file, disk_same, from_ok, from_err, pushed_popped}
use Rattle.tree_mem.proofs.disk.MemDisk.add_file.Goals as goal

pub returns-then-is_err-clause-err : goal.returns-then-is_err-clause-err
returns-then-is_err-clause-err c =
    let e = c.set_item.new.self in
    let s = from_err c.set_item.result (sym c.is_err.ensures.value ∙ c.if-is_err.true) c.set_item.ensures.err in
    disk_same c.args.self.now (record { stage = e.stage; game = e.game; keep = e.keep; files = c.pop.new.self; pending = e.pending }) record {
      items = λ q. s.items q;
      files = pushed_popped c.args.self.now.files.items e.files.items c.pop.new.self.items _ _ (s.files ∙ c.in_ok-push.ensures.items) e.files.ok.0 c.pop.ensures.rest;
      pending = s.pending;
    }

pub returns-clause-ok : goal.returns-clause-ok
returns-clause-ok c =
    let h = from_ok c.set_item.result (sym c.is_err.ensures.value ∙ c.if-is_err.false) c.set_item.ensures.ok in
    disk_file c.args.self.now c.set_item.new.self (spot_of c.args.at.now) c.args.bytes.now (h.here ∙ ap (λ n. Some (File n)) (c.len-number.ensures ∙ c.args.self.now.files.ok.0)) (λ q ne. h.others q ne)
    (h.files ∙ c.in_ok-push.ensures.items ∙ ap (λ x. c.args.self.now.files.items ++ x ∷ []) c.in_ok-firm.ensures) h.pending c.requires.no_folder
