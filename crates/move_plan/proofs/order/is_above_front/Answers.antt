use Rattle.std.proofs.Common.{◌∙◌}
use Rattle.move_plan.specs.Tests.{is_before}
use Rattle.move_plan.proofs.Turned.{front_tells, front_tells_none, positive}
use Rattle.move_plan.proofs.order.is_above_front.Goals as goal

pub returns-then-at-eq0 : goal.returns-then-at-eq0
returns-then-at-eq0 g c = λ item is. front_tells_none g.T.Keyed.key is_before c.args.items.now c.args.at c.requires c.if-at-eq0.true item

pub returns : goal.returns
returns g c = λ item is.
    c.comes_before.ensures ∙ (λ i. is_before (c.key.ensures i) (c.key-2.ensures i))
    ∙ front_tells g.T.Keyed.key is_before c.args.items.now c.args.at c.requires c.index-items-at.result c.index-items-at-2.result (positive c.args.at c.if-at-eq0.false) c.index-items-at.is c.index-items-at-2.is item is
