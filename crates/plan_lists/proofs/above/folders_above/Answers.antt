use Rattle.std.proofs.Common.{◌≡◌, [], sym, subst, rules}
use Rattle.plan_lists.specs.Above.{AddsAbove}
use Rattle.plan_lists.proofs.Added.{AreAbove, above_nothing, above_closed, above_step, above_answer}
use Rattle.plan_lists.proofs.above.folders_above.Goals as goal

pub loop-item-init : goal.loop-item-init
loop-item-init g c =
    let empty : c.new-found.result.items ≡ [] = search rules in
    subst (λ l. AreAbove l []) (sym empty) above_nothing

pub add_above-requires : goal.add_above-requires
add_above-requires g c = above_closed c.loop-item.found.items _ c.loop-item.invariant

pub loop-item-preserved : goal.loop-item-preserved
loop-item-preserved g c =
    above_step g.T.Pathed.path c.args.items.now c.loop-item.item-index c.item-item.result c.loop-item.found.items c.add_above.new.found.items c.loop-item-test.true c.item-item.is c.loop-item.invariant
    (subst (λ p. AddsAbove p c.loop-item.found.items c.add_above.new.found.items) c.path.ensures c.in_ok-add_above.ensures)

pub returns-clause-are : goal.returns-clause-are
returns-clause-are g c = above_answer g.T.Pathed.path c.args.items.now c.loop-item.item-index c.loop-item.found.items c.loop-item-test.false c.loop-item.invariant c.in_order.result c.in_order.ensures.same
