use Rattle.std.proofs.Common.{ℕ, List, Bor, option_map, ap, sym, ◌∙◌, subst}
use Rattle.winner_table.specs.Rows.{IsPick}
use Rattle.winner_table.proofs.Deciding.{paths_more, rows_more}
use Rattle.winner_table.proofs.wins.rows_of.Goals as goal

pub loop-entry-preserved : goal.loop-entry-preserved
loop-entry-preserved c =
    let all = c.args.all.now in
    let rows = c.loop-entry.rows.items in
    let entry = c.entry-item.result in
    let i = c.loop-entry.entry-index in
    let low = c.loop-entry-test.true in
    let wanted = option_map (λ (b : Bor (List ℕ)). b.now) c.id_of-wanted.result in
    let by = c.pick-by.result.1 in
    record {
      paths = rw c.in_ok-push.ensures.items (paths_more all rows i entry _ low c.entry-item.is c.in_ok-copy.ensures c.loop-entry.invariant.paths);
      each = rw c.in_ok-push.ensures.items
          (rows_more c.args.scans.now c.args.overrides.now all rows i entry _ wanted c.as_slice.result.now low c.entry-item.is c.in_ok-copy.ensures c.id_of-wanted.ensures c.as_slice.ensures.value
          (subst (λ id. IsPick c.args.scans.now c.as_slice.result.now wanted id by) (sym c.in_ok-copy-2.ensures) c.pick-by.ensures) c.loop-entry.invariant.each);
    }
