use Rattle.std.proofs.Common.{◌≡◌, ◌∙◌, ap, sym, get_or, arith}
use Rattle.deploy_plan.specs.Order.{turned}
use Rattle.deploy_plan.proofs.Ordered.{turned_more}
use Rattle.deploy_plan.proofs.lists.turn_each.Goals as goal

pub loop-save-preserved : goal.loop-save-preserved
loop-save-preserved c =
    let after : (c.swap.new.x, c.swap.new.y) ≡ turned (get_or c.loop-save.saves c.loop-save.save-index c.save-item.result) = λ i. (c.swap.ensures.x_after i, c.swap.ensures.y_after i) in
    turned_more c.args.saves.now c.loop-save.saves c.loop-save.save-index c.save-item.result (c.swap.new.x, c.swap.new.y) (omega arith) c.loop-save.invariant c.save-item.is
    (after ∙ ap turned (sym c.save-item.is))
