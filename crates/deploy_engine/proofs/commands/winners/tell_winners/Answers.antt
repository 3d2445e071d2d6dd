use Rattle.std.proofs.Common.{ap, subst, ◌∙◌}
use Rattle.tree_fs.specs.Story.{disk_of}
use Rattle.answer_lines.specs.Lists.{winner_lines}
use Rattle.command_steps.specs.Found.{IsLooked}
use Rattle.command_steps.specs.declared.stop.Stop.TheVariants.{Memory}
use Rattle.command_steps.proofs.Orders.{and_then, stops_at, stops_later, faults}
use Rattle.deploy_engine.proofs.Carrying.{hand_on, looked, looked_in_vain, none_found}
use Rattle.deploy_engine.proofs.Printed.{winners_printed}
use Rattle.deploy_engine.proofs.commands.winners.tell_winners.Goals as goal

pub returns-in_err-check_start-clause-carried : goal.returns-in_err-check_start-clause-carried
returns-in_err-check_start-clause-carried g c = λ told.
    let why = c.in_err-check_start.ensures.takes told c.args.limits.now in
    hand_on c.from_residual.ensures (looked_in_vain (c.check_start.ensures.same told) (stops_at _ why.stopped))

pub returns-in_err-look-clause-carried : goal.returns-in_err-look-clause-carried
returns-in_err-look-clause-carried g c = λ told.
    let start = (c.in_ok-check_start.ensures.takes told c.args.limits.now).passed in
    let why = c.in_err-look.ensures.takes told in
    hand_on c.from_residual-in_err-look.ensures (looked_in_vain (c.look_at_winners.ensures.same told ∙ start.story) (stops_later start why.stopped))

pub returns-in_err-lines-clause-carried : goal.returns-in_err-lines-clause-carried
returns-in_err-lines-clause-carried g c = λ told.
    let start = (c.in_ok-check_start.ensures.takes told c.args.limits.now).passed in
    hand_on c.from_residual-in_err-lines.ensures (looked_in_vain (c.look_at_winners.ensures.same told ∙ start.story) (faults _ _ _ Memory _ tt))

pub returns-clause-carried : goal.returns-clause-carried
returns-clause-carried g c = λ told.
    let start = (c.in_ok-check_start.ensures.takes told c.args.limits.now).passed in
    let last = (c.in_ok-look.ensures.takes told).passed in
    let all = and_then start last in
    let look = c.in_ok-look.look in
    let is = subst (λ s. IsLooked (disk_of s) look) start.story last.gives in
    looked all.story all all.story (winners_printed _ look _ is (c.in_ok-lines.ensures ∙ ap winner_lines c.as_slice.ensures.value)) none_found
