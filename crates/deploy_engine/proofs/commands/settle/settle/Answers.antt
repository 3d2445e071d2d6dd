use Rattle.std.proofs.Common.{sym, ap, subst, ◌∙◌}
use Rattle.std.specs.List.{AllByRecursion}
use Rattle.change_choices.specs.declared.choices.Choices.{Choices}
use Rattle.choice_lines.specs.Answers.{Fits}
use Rattle.command_steps.proofs.Orders.{stops_at}
use Rattle.deploy_engine.specs.Carried.{Carried}
use Rattle.deploy_engine.specs.SettleWork.{with_paths, up_to_changes, settling}
use Rattle.deploy_engine.proofs.Carrying.{hand_on, turned}
use Rattle.deploy_engine.proofs.Causing.{cause_since}
use Rattle.deploy_engine.proofs.commands.settle.settle.Goals as goal

pub returns-in_err-found-clause-carried : goal.returns-in_err-found-clause-carried
returns-in_err-found-clause-carried g c = λ told.
    hand_on c.from_residual.ensures (turned (λ no. no) (stops_at _ (c.in_err-found.ensures.takes told).stopped) (c.find_changes.ensures.stops told))

pub settle_found-requires-clause-fit : goal.settle_found-requires-clause-fit
settle_found-requires-clause-fit g c =
    subst (AllByRecursion (Fits c.in_ok-found.found.changes.items)) (sym (ap (λ (k : Choices). k.paths) c.choices_with-choices.ensures ∙ c.new.ensures)) tt

pub settle_found-requires-clause-found : goal.settle_found-requires-clause-found
settle_found-requires-clause-found g c = λ told. (c.in_ok-found.ensures.takes told).passed.gives

pub settle_found-requires-clause-open : goal.settle_found-requires-clause-open
settle_found-requires-clause-open g c = λ told. c.in_ok-found.ensures.open told

pub returns-clause-carried : goal.returns-clause-carried
returns-clause-carried g c = λ told.
    let passed = (c.in_ok-found.ensures.takes told).passed in
    let old = g.T.Tree.story c.args.tree.now in
    let new = g.T.Tree.story c.settle_found.new.tree in
    subst (λ k. Carried (settling up_to_changes k) c.args.limits.now old new c.settle_found.result) (c.choices_with-choices.ensures ∙ ap (with_paths c.args.choices) c.new.ensures)
    (c.settle_found.ensures.carried told up_to_changes old (record { all = passed.all; story = passed.story; swept = c.find_changes.ensures.stops told; quiet = c.in_ok-found.ensures.quiet told }))

pub returns-clause-cause : goal.returns-clause-cause
returns-clause-cause g c = cause_since c.find_changes.ensures.cause.later c.settle_found.ensures.cause
