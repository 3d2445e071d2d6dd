use Rattle.std.proofs.Common.{◌∙◌, ap, subst}
use Rattle.std.specs.Prelude.{IfErr}
use Rattle.tree_fs.specs.Story.{disk_of}
use Rattle.tree_fs.proofs.Moments.{along_last, along_weaken}
use Rattle.move_plan.specs.declared.plan.Plan.{Plan}
use Rattle.move_plan.specs.Places.{Has}
use Rattle.desk_model.specs.Stops.{Leads}
use Rattle.plan_exec.specs.Counts.{Runs}
use Rattle.plan_exec.specs.Making.{Makes, CantMakeOne}
use Rattle.plan_exec.specs.Steps.{ToOutcomeOf}
use Rattle.plan_exec.proofs.Controls.{controls_made}
use Rattle.plan_exec.proofs.MadeStands.{made_ready, made_leads}
use Rattle.plan_exec.proofs.NeverMade.{never_made}
use Rattle.plan_exec.proofs.folders.make_folders.Goals as goal

pub returns-clause-stops : goal.returns-clause-stops
returns-clause-stops g c = λ told ready.
    let plan = c.args.ready.now in
    let s = g.T.Tree.story c.args.tree.now in
    let t = g.T.Tree.story c.make_all.new.tree in
    let a = subst (λ l. Runs 0 (Makes (Has l) (disk_of s)) s t) (c.as_slice.ensures ∙ ap (λ (p : Plan). p.folders) c.plan-plan.ensures.same) (c.make_all.ensures.stops told) in
    along_weaken (Makes (Has plan.folders) (disk_of s)) (Leads (ToOutcomeOf (disk_of s))) s t (λ e h. made_leads plan c.plan-plan.ensures.rules (disk_of s) ready e h) a.along

pub returns-clause-again : goal.returns-clause-again
returns-clause-again g c = λ told ready.
    let plan = c.args.ready.now in
    let s = g.T.Tree.story c.args.tree.now in
    let t = g.T.Tree.story c.make_all.new.tree in
    let a = subst (λ l. Runs 0 (Makes (Has l) (disk_of s)) s t) (c.as_slice.ensures ∙ ap (λ (p : Plan). p.folders) c.plan-plan.ensures.same) (c.make_all.ensures.stops told) in
    made_ready plan c.plan-plan.ensures.rules (disk_of s) ready (disk_of t) (along_last (Makes (Has plan.folders) (disk_of s)) s t a.along)

pub returns-clause-never : goal.returns-clause-never
returns-clause-never g c = λ told ready.
    let plan = c.args.ready.now in
    let s = g.T.Tree.story c.args.tree.now in
    never_made plan c.plan-plan.ensures.rules (disk_of s) ready c.make_all.result
    (subst (λ l. IfErr c.make_all.result (CantMakeOne l (disk_of s))) (c.as_slice.ensures ∙ ap (λ (p : Plan). p.folders) c.plan-plan.ensures.same) (c.make_all.ensures.err told))

pub returns-clause-only : goal.returns-clause-only
returns-clause-only g c = λ told.
    let s = g.T.Tree.story c.args.tree.now in
    let t = g.T.Tree.story c.make_all.new.tree in
    (subst (λ l. Runs 0 (Makes (Has l) (disk_of s)) s t) (c.as_slice.ensures ∙ ap (λ (p : Plan). p.folders) c.plan-plan.ensures.same) (c.make_all.ensures.stops told)).along

pub returns-clause-syncs : goal.returns-clause-syncs
returns-clause-syncs g c = λ told. (c.make_all.ensures.stops told).syncs

pub returns-clause-controls : goal.returns-clause-controls
returns-clause-controls g c = λ told.
    let plan = c.args.ready.now in
    let s = g.T.Tree.story c.args.tree.now in
    let t = g.T.Tree.story c.make_all.new.tree in
    let a = subst (λ l. Runs 0 (Makes (Has l) (disk_of s)) s t) (c.as_slice.ensures ∙ ap (λ (p : Plan). p.folders) c.plan-plan.ensures.same) (c.make_all.ensures.stops told) in
    controls_made plan c.plan-plan.ensures.rules (disk_of s) (disk_of t) (along_last (Makes (Has plan.folders) (disk_of s)) s t a.along)
