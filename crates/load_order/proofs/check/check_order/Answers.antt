use Rattle.std.proofs.Common.{get_or, take, arith, below_more}
use Rattle.load_order.specs.Orders.{MayComeNext}
use Rattle.load_order.proofs.Checks.{lawful_from, may_from}
use Rattle.load_order.proofs.check.check_order.Goals as goal

pub returns-then-not-may_come_next : goal.returns-then-not-may_come_next
returns-then-not-may_come_next c =
    (λ f. cc, λ h. (let yes = c.may_come_next.ensures.1 (may_from c.args.graph.now c.args.list.now c.loop-i.i c.loop-i-test.true h) in let off = c.if-not-may_come_next.true in cc))

pub loop-i-preserved : goal.loop-i-preserved
loop-i-preserved c =
    below_more (λ k. MayComeNext c.args.graph.now (take k c.args.list.now) (get_or c.args.list.now k 0)) c.loop-i.i c.loop-i.invariant (c.may_come_next.ensures.0 c.if-not-may_come_next.false)

pub returns : goal.returns
returns c =
    (λ on. lawful_from c.args.graph.now c.args.list.now (λ k l. c.loop-i.invariant k (omega (arith, l, c.loop-i-test.false))) (c.has_every_node.ensures.0 on), λ h. c.has_every_node.ensures.1 h.every)
