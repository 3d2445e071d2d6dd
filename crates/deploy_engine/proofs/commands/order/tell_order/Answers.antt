use Rattle.std.proofs.Common.{sym, ap, subst, ◌∙◌}
use Rattle.tree_fs.specs.Story.{disk_of}
use Rattle.std.specs.List.{AllByRecursion}
use Rattle.answer_lines.specs.Lists.{HasId, order_lines}
use Rattle.command_steps.specs.Found.{IsOrderLook}
use Rattle.command_steps.specs.declared.stop.Stop.TheVariants.{Memory}
use Rattle.command_steps.proofs.Orders.{and_then, stops_at, stops_later, faults}
use Rattle.deploy_engine.proofs.Carrying.{hand_on, looked, looked_in_vain, none_found}
use Rattle.deploy_engine.proofs.Printed.{order_printed}
use Rattle.deploy_engine.proofs.commands.order.tell_order.Goals as goal

pub returns-in_err-check_start-clause-carried : goal.returns-in_err-check_start-clause-carried
returns-in_err-check_start-clause-carried g c = λ told.
    let why = c.in_err-check_start.ensures.takes told c.args.limits.now in
    hand_on c.from_residual.ensures (looked_in_vain (c.check_start.ensures.same told) (stops_at _ why.stopped))

pub returns-in_err-look-clause-carried : goal.returns-in_err-look-clause-carried
returns-in_err-look-clause-carried g c = λ told.
    let start = (c.in_ok-check_start.ensures.takes told c.args.limits.now).passed in
    let why = c.in_err-look.ensures.takes told in
    hand_on c.from_residual-in_err-look.ensures (looked_in_vain (c.look_at_order.ensures.same told ∙ start.story) (stops_later start why.stopped))

pub order_lines-requires : goal.order_lines-requires
order_lines-requires g c =
    subst (λ ids. AllByRecursion (HasId ids) c.as_slice-2.result.now) (sym c.as_slice.ensures.value)
    (subst (AllByRecursion (HasId c.in_ok-look.look.ids.items)) (sym c.as_slice-2.ensures.value) c.in_ok-look.ensures.whole.has_ids)

pub returns-in_err-lines-clause-carried : goal.returns-in_err-lines-clause-carried
returns-in_err-lines-clause-carried g c = λ told.
    let start = (c.in_ok-check_start.ensures.takes told c.args.limits.now).passed in
    hand_on c.from_residual-in_err-lines.ensures (looked_in_vain (c.look_at_order.ensures.same told ∙ start.story) (faults _ _ _ Memory _ tt))

pub returns-clause-carried : goal.returns-clause-carried
returns-clause-carried g c = λ told.
    let start = (c.in_ok-check_start.ensures.takes told c.args.limits.now).passed in
    let last = (c.in_ok-look.ensures.takes told).passed in
    let all = and_then start last in
    let look = c.in_ok-look.look in
    let is = subst (λ s. IsOrderLook (disk_of s) look) start.story last.gives in
    let lines = c.in_ok-lines.ensures ∙ ap (λ ids. order_lines ids c.as_slice-2.result.now) c.as_slice.ensures.value ∙ ap (order_lines look.ids.items) c.as_slice-2.ensures.value in
    looked all.story all all.story (order_printed _ look _ is lines) none_found
