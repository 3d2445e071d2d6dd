use Rattle.std.proofs.Common.{List, [], ◌∷◌, length, sym, ap, subst, ◌∙◌}
use Rattle.std.specs.List.{AllByRecursion}
use Rattle.rel_paths.specs.declared.control.Control.{Control}
use Rattle.tree_fs.specs.Texts.{control_spot}
use Rattle.tree_fs.specs.Story.{disk_of}
use Rattle.tree_fs.proofs.Moments.{along_same}
use Rattle.intent_journal.specs.Temps.{IsFileOrAbsent}
use Rattle.choice_lines.specs.Answers.{Fits}
use Rattle.answer_lines.specs.declared.totals.Totals.TheVariants as totals
use Rattle.answer_lines.specs.Told.{total_lines}
use Rattle.command_steps.specs.declared.stop.Stop.TheVariants.{Memory}
use Rattle.command_steps.specs.Inputs.{changes_on}
use Rattle.command_steps.specs.Manifests.{HasManifest}
use Rattle.command_steps.specs.Steps.{settled}
use Rattle.command_steps.specs.Orders.{AllPass}
use Rattle.command_steps.proofs.Orders.{stops_at, stops_later, faults}
use Rattle.deploy_engine.specs.SettleWork.{PrintsSettled, Begins}
use Rattle.deploy_engine.proofs.Causing.{cause_on}
use Rattle.deploy_engine.proofs.Carrying.{hand_on, turned, done, none_found}
use Rattle.deploy_engine.proofs.Settling.{FindsSettlement, begun, whole, goes, leaves, stops_so}
use Rattle.deploy_engine.proofs.commands.settle.settle_found.Goals as goal

pub settle_of-requires-clause-fit : goal.settle_of-requires-clause-fit
settle_of-requires-clause-fit g c = subst (λ l. AllByRecursion (Fits l) c.args.choices.now.paths) (sym c.as_slice-changes.ensures.value) c.requires.fit

pub settle_of-requires-clause-there : goal.settle_of-requires-clause-there
settle_of-requires-clause-there g c = λ told. (c.requires.found told).there

pub settle_of-requires-clause-changes : goal.settle_of-requires-clause-changes
settle_of-requires-clause-changes g c = λ told. c.as_slice-changes.ensures.value ∙ (c.requires.found told).changes

pub settle_of-requires-clause-told : goal.settle_of-requires-clause-told
settle_of-requires-clause-told g c = λ told. (c.requires.found told).told

pub returns-in_err-plan-clause-carried : goal.returns-in_err-plan-clause-carried
returns-in_err-plan-clause-carried g c = λ told steps start begins.
    let taken = c.in_err-plan.ensures.takes told c.args.limits.now in
    hand_on c.from_residual.ensures (turned (λ no. no) (stops_later (begun begins) (stops_at _ taken.stopped)) (along_same _ _ _ _ begins.swept (c.settle_of.ensures.same told)))

pub returns-in_err-lines-clause-carried : goal.returns-in_err-lines-clause-carried
returns-in_err-lines-clause-carried g c = λ told steps start begins.
    hand_on c.from_residual-in_err-lines.ensures (turned (λ no. no) (faults _ _ _ Memory _ tt) (along_same _ _ _ _ begins.swept (c.settle_of.ensures.same told)))

pub run_plan-requires : goal.run_plan-requires
run_plan-requires g c = λ told.
    subst (λ s. (which : Control) → IsFileOrAbsent (disk_of s) (control_spot which)) (sym (c.settle_of.ensures.same told)) (c.requires.open told)

pub returns-in_err-run_plan-clause-carried : goal.returns-in_err-run_plan-clause-carried
returns-in_err-run_plan-clause-carried g c = λ told steps start begins.
    let limits = c.args.limits.now in
    let choices = c.args.choices.now in
    let plan = c.in_ok-plan.plan in
    let there = c.args.found.now.there in
    let same = sym (c.settle_of.ensures.same told) in
    let last = (c.in_ok-plan.ensures.takes told limits).passed in
    let finds = subst (λ s. FindsSettlement choices (disk_of s) plan) same (record { has = last.gives; sound = c.in_ok-plan.ensures.sound told; leads = c.in_ok-plan.ensures.leads told }) in
    let has = subst (λ s. HasManifest (disk_of s) there) same (c.requires.found told).there in
    let open_way = subst (AllPass (settled choices ∷ []) limits) same last.all in
    hand_on c.from_residual-in_err-run_plan.ensures
    (stops_so choices limits steps start _ (subst (Begins steps limits start) same begins) plan there finds has open_way _ (c.run_plan.ensures.runs told) _ (c.in_err-run_plan.ensures.stopped told))

pub returns-in_err-run_plan-clause-cause : goal.returns-in_err-run_plan-clause-cause
returns-in_err-run_plan-clause-cause g c = cause_on c.from_residual-in_err-run_plan.ensures c.settle_of.ensures.cause.later c.in_err-run_plan.ensures.cause

pub returns-clause-carried : goal.returns-clause-carried
returns-clause-carried g c = λ told steps start begins.
    let limits = c.args.limits.now in
    let choices = c.args.choices.now in
    let plan = c.in_ok-plan.plan in
    let there = c.args.found.now.there in
    let base = g.T.Tree.story c.settle_of.new.tree in
    let new = g.T.Tree.story c.run_plan.new.tree in
    let same = sym (c.settle_of.ensures.same told) in
    let last = (c.in_ok-plan.ensures.takes told limits).passed in
    let finds = subst (λ s. FindsSettlement choices (disk_of s) plan) same (record { has = last.gives; sound = c.in_ok-plan.ensures.sound told; leads = c.in_ok-plan.ensures.leads told }) in
    let has = subst (λ s. HasManifest (disk_of s) there) same (c.requires.found told).there in
    let open_way = subst (AllPass (settled choices ∷ []) limits) same last.all in
    let here = subst (Begins steps limits start) same begins in
    let runs = c.run_plan.ensures.runs told in
    let listed = c.as_slice-changes.ensures.value ∙ (c.requires.found told).changes ∙ ap (λ s. changes_on (disk_of s)) same in
    let counted = ap (λ (l : List _). total_lines (totals.Settled (length l) (length plan.sets) (length plan.saves))) listed in
    let printed : PrintsSettled choices (record { start = start; base = base; end = new }) c.in_ok-lines.lines.items =
    record { plan = plan; has = finds.has; lines = c.in_ok-lines.ensures ∙ ap total_lines c.totals_of.ensures ∙ counted } in
    done (λ no. no) (whole choices limits steps start base here plan there finds has open_way c.in_ok-run_plan.ensures.fits) here.swept
    (goes choices limits steps start base here plan there finds has new runs) (leaves choices limits steps start base here plan there finds has new runs (c.in_ok-run_plan.ensures.done told)) printed none_found
