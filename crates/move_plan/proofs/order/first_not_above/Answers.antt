use Rattle.std.proofs.Common.{◌∙◌, sym}
use Rattle.move_plan.specs.Tests.{is_before}
use Rattle.move_plan.proofs.Turned.{out-step-at, out-found-at}
use Rattle.move_plan.proofs.order.first_not_above.Goals as goal

pub loop-at-preserved : goal.loop-at-preserved
loop-at-preserved g c =
    c.loop-at.invariant
    ∙ out-step-at g.T.Keyed.key is_before c.args.items.now c.loop-at.at c.loop-at-test.true _ c.is_above_front.ensures c.if-not-is_above_front.false

pub returns-then-not-is_above_front : goal.returns-then-not-is_above_front
returns-then-not-is_above_front g c =
    sym (c.loop-at.invariant
    ∙ out-found-at g.T.Keyed.key is_before c.args.items.now c.loop-at.at c.loop-at-test.true _ c.is_above_front.ensures c.if-not-is_above_front.true)
