use Rattle.std.proofs.Common.{◌≡◌, ◌++◌, ap, ◌∙◌, map, take, drop, length}
use Rattle.deploy_plan.specs.Order.{turned}
use Rattle.deploy_plan.proofs.Ordered.{turned_back}
use Rattle.deploy_plan.proofs.lists.turned_all.Goals as goal

pub returns : goal.returns
returns c =
    let items = c.args.saves.items in
    let each : c.turn_each.new.saves ≡ map turned items = c.turn_each.ensures ∙ ap (map turned) c.as_mut_slice.ensures.value in
    (λ i. take c.args.saves.len (each i ++ drop (length (each i)) items)) ∙ turned_back c.args.saves.len items c.args.saves.ok.0
