use Rattle.std.proofs.Common.{◌∙◌, sym}
use Rattle.move_plan.specs.Tests.{is_behind}
use Rattle.move_plan.proofs.Turned.{out-step-here, out-found-here}
use Rattle.move_plan.proofs.order.first_not_below.Goals as goal

pub loop-at-preserved : goal.loop-at-preserved
loop-at-preserved c =
    c.loop-at.invariant
    ∙ out-step-here is_behind c.args.places.now c.loop-at.at c.loop-at-test.true _ c.is_below_front.ensures c.if-not-is_below_front.false

pub returns-then-not-is_below_front : goal.returns-then-not-is_below_front
returns-then-not-is_below_front c =
    sym (c.loop-at.invariant
    ∙ out-found-here is_behind c.args.places.now c.loop-at.at c.loop-at-test.true _ c.is_below_front.ensures c.if-not-is_below_front.true)
