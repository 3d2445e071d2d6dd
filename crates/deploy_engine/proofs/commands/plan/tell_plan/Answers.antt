use Rattle.std.proofs.Common.{sym, subst, ◌∙◌}
use Rattle.tree_fs.specs.Story.{disk_of}
use Rattle.command_steps.specs.declared.stop.Stop.TheVariants.{Memory}
use Rattle.command_steps.specs.Found.{IsLooked}
use Rattle.command_steps.specs.Manifests.{HasManifest}
use Rattle.command_steps.specs.Plans.{HasPlan}
use Rattle.command_steps.proofs.Orders.{and_then, stops_at, stops_later, faults}
use Rattle.deploy_engine.specs.PlanWork.{PrintsPlan}
use Rattle.deploy_engine.proofs.Carrying.{hand_on, looked, looked_in_vain, none_found}
use Rattle.deploy_engine.proofs.commands.plan.tell_plan.Goals as goal

pub returns-in_err-check_start-clause-carried : goal.returns-in_err-check_start-clause-carried
returns-in_err-check_start-clause-carried g c = λ told.
    let why = c.in_err-check_start.ensures.takes told c.args.limits.now in
    hand_on c.from_residual.ensures (looked_in_vain (c.check_start.ensures.same told) (stops_at _ why.stopped))

pub returns-in_err-look-clause-carried : goal.returns-in_err-look-clause-carried
returns-in_err-look-clause-carried g c = λ told.
    let start = (c.in_ok-check_start.ensures.takes told c.args.limits.now).passed in
    let why = c.in_err-look.ensures.takes told in
    hand_on c.from_residual-in_err-look.ensures (looked_in_vain (c.look_at_winners.ensures.same told ∙ start.story) (stops_later start (stops_at _ why.stopped)))

pub returns-in_err-there-clause-carried : goal.returns-in_err-there-clause-carried
returns-in_err-there-clause-carried g c = λ told.
    let start = (c.in_ok-check_start.ensures.takes told c.args.limits.now).passed in
    let look = (c.in_ok-look.ensures.takes told).passed in
    let why = c.in_err-there.ensures.takes told in
    hand_on c.from_residual-in_err-there.ensures (looked_in_vain (c.manifest_of.ensures.same told ∙ c.look_at_winners.ensures.same told ∙ start.story) (stops_later start (stops_later look (stops_at _ why.stopped))))

pub plan_of-requires-clause-found : goal.plan_of-requires-clause-found
plan_of-requires-clause-found g c = λ told.
    subst (λ s. IsLooked (disk_of s) c.in_ok-look.look) (sym (c.manifest_of.ensures.same told ∙ c.look_at_winners.ensures.same told)) (c.in_ok-look.ensures.takes told).passed.gives

pub plan_of-requires-clause-there : goal.plan_of-requires-clause-there
plan_of-requires-clause-there g c = λ told.
    subst (λ s. HasManifest (disk_of s) c.in_ok-there.there) (sym (c.manifest_of.ensures.same told)) (c.in_ok-there.ensures.takes told).passed.gives

pub returns-in_err-plan-clause-carried : goal.returns-in_err-plan-clause-carried
returns-in_err-plan-clause-carried g c = λ told.
    let start = (c.in_ok-check_start.ensures.takes told c.args.limits.now).passed in
    let look = (c.in_ok-look.ensures.takes told).passed in
    let there = (c.in_ok-there.ensures.takes told).passed in
    let why = c.in_err-plan.ensures.takes told c.args.limits.now in
    hand_on c.from_residual-in_err-plan.ensures
    (looked_in_vain (c.plan_of.ensures.same told ∙ c.manifest_of.ensures.same told ∙ c.look_at_winners.ensures.same told ∙ start.story) (stops_later start (stops_later look (stops_later there why.stopped))))

pub returns-in_err-lines-clause-carried : goal.returns-in_err-lines-clause-carried
returns-in_err-lines-clause-carried g c = λ told.
    let start = (c.in_ok-check_start.ensures.takes told c.args.limits.now).passed in
    hand_on c.from_residual-in_err-lines.ensures
    (looked_in_vain (c.plan_of.ensures.same told ∙ c.manifest_of.ensures.same told ∙ c.look_at_winners.ensures.same told ∙ start.story) (faults _ _ _ Memory _ tt))

pub returns-clause-carried : goal.returns-clause-carried
returns-clause-carried g c = λ told.
    let start = (c.in_ok-check_start.ensures.takes told c.args.limits.now).passed in
    let look = (c.in_ok-look.ensures.takes told).passed in
    let there = (c.in_ok-there.ensures.takes told).passed in
    let last = (c.in_ok-plan.ensures.takes told c.args.limits.now).passed in
    let all = and_then start (and_then look (and_then there last)) in
    let same = c.manifest_of.ensures.same told ∙ c.look_at_winners.ensures.same told ∙ start.story in
    let plan = c.in_ok-plan.plan in
    let has = subst (λ s. HasPlan (disk_of s) plan) same last.gives in
    let printed : PrintsPlan (disk_of (g.T.Tree.story c.args.tree.now)) c.in_ok-lines.lines.items = record { plan = plan; has = has; lines = c.in_ok-lines.ensures } in
    looked all.story all all.story printed none_found
