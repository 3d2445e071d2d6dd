use Rattle.std.proofs.Common.{◌≡◌, ◌∙◌, sym, ap, subst}
use Rattle.std.specs.declared.option.Option.TheVariants.{None}
use Rattle.tree_fs.specs.Story.{disk_of}
use Rattle.manifest_json.specs.declared.manifest.Manifest.{Manifest}
use Rattle.change_detect.specs.Changes.{changes_by}
use Rattle.change_detect.specs.Classes.{class_of}
use Rattle.change_detect.specs.Refusals.{first_blocked}
use Rattle.command_steps.specs.declared.stop.Stop.TheVariants.{Memory}
use Rattle.command_steps.proofs.Orders.{takes_err, faults}
use Rattle.command_steps.proofs.Settling.{settle_why, settle_passes}
use Rattle.command_steps.proofs.settle.settle_over.Goals as goal

pub returns-in_err-by_path-clause-takes : goal.returns-in_err-by_path-clause-takes
returns-in_err-by_path-clause-takes g c = λ told limits. takes_err _ _ c.from_residual.ensures (faults _ _ _ Memory _ tt)

pub settle_plan-requires-clause-changes : goal.settle_plan-requires-clause-changes
settle_plan-requires-clause-changes g c = λ told.
    let d = disk_of (g.T.Tree.story c.args.tree.now) in
    c.requires.changes told ∙ ap (λ (m : Manifest). changes_by (class_of d) m.rows) (sym (c.requires.old told))

pub settle_plan-requires-clause-told : goal.settle_plan-requires-clause-told
settle_plan-requires-clause-told g c = λ told.
    let d = disk_of (g.T.Tree.story c.args.tree.now) in
    subst (λ (m : Manifest). first_blocked d m.rows ≡ None) (sym (c.requires.old told)) (c.requires.told told)

pub returns-in_err-settle_plan-clause-takes : goal.returns-in_err-settle_plan-clause-takes
returns-in_err-settle_plan-clause-takes g c = λ told limits.
    let choices = c.args.choices.now in
    takes_err _ _ c.from_residual-in_err-settle_plan.ensures
    (settle_why choices limits _ _ c.args.old.now (c.in_err-settle_plan.ensures.same told) (c.requires.old told) c.in_err-settle_plan.field-0.0 (c.in_err-settle_plan.ensures.refused told choices c.new-decider.ensures.answers))

pub returns-clause-takes : goal.returns-clause-takes
returns-clause-takes g c = λ told limits.
    let choices = c.args.choices.now in
    settle_passes choices limits _ _ c.args.old.now (c.in_ok-settle_plan.ensures.same told) (c.requires.old told) c.in_ok-settle_plan.field-0 (c.in_ok-settle_plan.ensures.planned told choices c.new-decider.ensures.answers) (c.in_ok-settle_plan.ensures.passes told choices c.new-decider.ensures.answers)

pub returns-clause-leads : goal.returns-clause-leads
returns-clause-leads g c = λ told. c.in_ok-settle_plan.ensures.leads told c.args.choices.now c.new-decider.ensures.answers (c.requires.old told)
