use Rattle.std.proofs.Common.{◌≢◌, ◌↔◌, [], ap, subst, ◌∙◌}
use Rattle.std.specs.Prelude.{IsTrue}
use Rattle.answer_lines.specs.Lists.{change_lines}
use Rattle.command_steps.specs.declared.stop.Stop.TheVariants.{Memory}
use Rattle.command_steps.proofs.Orders.{faults}
use Rattle.deploy_engine.proofs.Carrying.{hand_on, looked, looked_in_vain}
use Rattle.deploy_engine.proofs.commands.check.tell_changes.Goals as goal

pub returns-in_err-found-clause-carried : goal.returns-in_err-found-clause-carried
returns-in_err-found-clause-carried g c = λ told.
    hand_on c.from_residual.ensures (looked_in_vain (c.find_changes.ensures.same told) (c.in_err-found.ensures.takes told).stopped)

pub returns-in_err-lines-clause-carried : goal.returns-in_err-lines-clause-carried
returns-in_err-lines-clause-carried g c = λ told.
    hand_on c.from_residual-in_err-lines.ensures (looked_in_vain (c.find_changes.ensures.same told) (faults _ _ _ Memory _ tt))

pub returns-clause-carried : goal.returns-clause-carried
returns-clause-carried g c = λ told.
    let all = (c.in_ok-found.ensures.takes told).passed in
    let found = all.gives.changes in
    looked all.story all all.story (c.in_ok-lines.ensures ∙ ap change_lines (c.as_slice.ensures.value ∙ found))
    (subst (λ list. IsTrue c.are_some.result ↔ (list ≢ [])) (c.as_slice-2.ensures.value ∙ found) c.are_some.ensures)
