use Rattle.std.proofs.Common.{rules, ◌≡◌, ◌+◌, ◌-◌, length, get_or, arith, ◌∙◌}
use Rattle.winner_table.specs.Merged.{is_below}
use Rattle.winner_table.proofs.Ends.{take_first, take_second, take_rest}
use Rattle.list_laws.proofs.Lists.{one_out}
use Rattle.winner_table.proofs.Orders.{told_above, told_not_above}
use Rattle.winner_table.proofs.runs.merge_into.Goals as goal

pub loop-b-preserved-in-Greater : goal.loop-b-preserved-in-Greater
loop-b-preserved-in-Greater g c =
    let key = g.C.Compare.key in
    let inv = c.loop-b.invariant in
    let a = c.loop-b.a in
    let b = c.loop-b.b in
    let x = c.index.result.now in
    let y = c.index-in-loop-b.result.now in
    let m = c.len-in-loop-b-2.result - 1 in
    let n = c.len-in-loop-b-3.result - 1 in
    let long_a : length a.items ≡ m + 1 = omega (arith, a.ok.0, c.len.ensures, c.len-in-loop-b-2.ensures, c.loop-b-test.true) in
    let long_b : length b.items ≡ n + 1 = omega (arith, b.ok.0, c.len-in-loop-b.ensures, c.len-in-loop-b-3.ensures, c.if-len-ne0.true) in
    let is_x : x ≡ get_or a.items m x = search rules in
    let is_y : y ≡ get_or b.items n y = search rules in
    let below = told_above (key c.args.order.now) (key c.loop-b.order) inv.keys x y _ c.compare.ensures.order c.in-Greater.is in
    let out = c.take_last in
    let put = c.push_reserved.ensures in
    let step = take_second (is_below (key c.args.order.now)) a.items b.items out.new.self.items x y out.result m n long_a is_x long_b is_y out.ensures.items below in
    record {
      items = one_out _ _ _ _ _ _ inv.items step put.items;
      room = omega (arith, inv.room, put.len, put.capacity, out.ensures.len);
      keys = λ z. c.compare.ensures.keys z ∙ inv.keys z;
      count = omega (arith, inv.count, c.compare.ensures.counted, out.ensures.len);
    }

pub loop-b-preserved : goal.loop-b-preserved
loop-b-preserved g c =
    let key = g.C.Compare.key in
    let inv = c.loop-b.invariant in
    let a = c.loop-b.a in
    let b = c.loop-b.b in
    let x = c.index.result.now in
    let y = c.index-in-loop-b.result.now in
    let m = c.len-in-loop-b-2.result - 1 in
    let n = c.len-in-loop-b-3.result - 1 in
    let long_a : length a.items ≡ m + 1 = omega (arith, a.ok.0, c.len.ensures, c.len-in-loop-b-2.ensures, c.loop-b-test.true) in
    let long_b : length b.items ≡ n + 1 = omega (arith, b.ok.0, c.len-in-loop-b.ensures, c.len-in-loop-b-3.ensures, c.if-len-ne0.true) in
    let is_x : x ≡ get_or a.items m x = search rules in
    let is_y : y ≡ get_or b.items n y = search rules in
    let below = told_not_above (key c.args.order.now) (key c.loop-b.order) inv.keys x y _ c.compare.ensures.order c.in_default.not-Greater in
    let out = c.take_last-in_default in
    let put = c.push_reserved-in_default.ensures in
    let step = take_first (is_below (key c.args.order.now)) a.items b.items out.new.self.items x y out.result m n long_a is_x long_b is_y out.ensures.items below in
    record {
      items = one_out _ _ _ _ _ _ inv.items step put.items;
      room = omega (arith, inv.room, put.len, put.capacity, out.ensures.len);
      keys = λ z. c.compare.ensures.keys z ∙ inv.keys z;
      count = omega (arith, inv.count, c.compare.ensures.counted, out.ensures.len);
    }

pub loop-out-preserved : goal.loop-out-preserved
loop-out-preserved g c =
    let inv = c.loop-out.invariant in
    let b = c.loop-b.b in
    let out = c.take_last-in-loop-out in
    let put = c.push_reserved-in-loop-out.ensures in
    let empty : length b.items ≡ 0 = omega (arith, inv.rest, out.ensures.len, b.ok.0) in
    let step = take_rest (is_below (g.C.Compare.key c.args.order.now)) _ b.items out.new.self.items out.result empty out.ensures.items in
    record {
      items = one_out _ _ _ _ _ _ inv.items step put.items;
      room = omega (arith, inv.room, put.len, put.capacity, out.ensures.len);
      rest = λ _. omega (arith, empty, b.ok.0);
    }
