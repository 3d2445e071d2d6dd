use Rattle.std.proofs.Common.{arith, sym, ap, subst, ◌∙◌}
use Rattle.tree_fs.specs.declared.place.Root.TheVariants.{Keep}
use Rattle.tree_fs.specs.Spot.{root_spot}
use Rattle.tree_fs.specs.Frames.{EntriesSettled}
use Rattle.tree_fs.specs.Story.{disk_of}
use Rattle.tree_fs.proofs.Moments.{along_same}
use Rattle.plan_exec.specs.Ending.{NoTemps}
use Rattle.answer_lines.specs.Told.{total_lines}
use Rattle.command_steps.specs.declared.stop.Stop.TheVariants.{Memory}
use Rattle.command_steps.specs.Found.{IsLooked}
use Rattle.command_steps.specs.Manifests.{HasManifest}
use Rattle.command_steps.proofs.Orders.{and_then, stops_at, stops_later, faults}
use Rattle.deploy_engine.specs.DeployWork.{PrintsDeployed}
use Rattle.deploy_engine.proofs.Causing.{cause_on}
use Rattle.deploy_engine.proofs.Beginning.{begun_open, begun_quiet}
use Rattle.deploy_engine.proofs.Carrying.{turned, done, none_found}
use Rattle.deploy_engine.proofs.Deployed.{not_deployed, is_deployed, saves_behind}
use Rattle.deploy_engine.proofs.Deploying.{FindsPlan, finds_plan, goes, leaves, fits_passed, stops_so}
use Rattle.deploy_engine.proofs.commands.deploy.deploy_mods.Goals as goal

pub returns-in_err-start_change-clause-deploys : goal.returns-in_err-start_change-clause-deploys
returns-in_err-start_change-clause-deploys g c = λ told.
    let why = c.in_err-start_change.ensures.takes told c.args.limits.now in
    not_deployed c.from_residual.ensures (turned (λ no. no) (stops_at _ why.stopped) (c.start_change.ensures.stops told))

pub returns-in_err-look-clause-deploys : goal.returns-in_err-look-clause-deploys
returns-in_err-look-clause-deploys g c = λ told.
    let start = (c.in_ok-start_change.ensures.takes told c.args.limits.now).passed in
    let why = c.in_err-look.ensures.takes told in
    not_deployed c.from_residual-in_err-look.ensures (turned (λ no. no) (stops_later start (stops_at _ why.stopped)) (along_same _ _ _ _ (c.start_change.ensures.stops told) (c.look_at_winners.ensures.same told)))

pub returns-in_err-there-clause-deploys : goal.returns-in_err-there-clause-deploys
returns-in_err-there-clause-deploys g c = λ told.
    let start = (c.in_ok-start_change.ensures.takes told c.args.limits.now).passed in
    let look = (c.in_ok-look.ensures.takes told).passed in
    let why = c.in_err-there.ensures.takes told in
    not_deployed c.from_residual-in_err-there.ensures
    (turned (λ no. no) (stops_later start (stops_later look (stops_at _ why.stopped))) (along_same _ _ _ _ (c.start_change.ensures.stops told) (c.manifest_of.ensures.same told ∙ c.look_at_winners.ensures.same told)))

pub plan_of-requires-clause-found : goal.plan_of-requires-clause-found
plan_of-requires-clause-found g c = λ told.
    subst (λ s. IsLooked (disk_of s) c.in_ok-look.look) (sym (c.manifest_of.ensures.same told ∙ c.look_at_winners.ensures.same told)) (c.in_ok-look.ensures.takes told).passed.gives

pub plan_of-requires-clause-there : goal.plan_of-requires-clause-there
plan_of-requires-clause-there g c = λ told.
    subst (λ s. HasManifest (disk_of s) c.in_ok-there.there) (sym (c.manifest_of.ensures.same told)) (c.in_ok-there.ensures.takes told).passed.gives

pub returns-in_err-plan-clause-deploys : goal.returns-in_err-plan-clause-deploys
returns-in_err-plan-clause-deploys g c = λ told.
    let start = (c.in_ok-start_change.ensures.takes told c.args.limits.now).passed in
    let look = (c.in_ok-look.ensures.takes told).passed in
    let there = (c.in_ok-there.ensures.takes told).passed in
    let why = c.in_err-plan.ensures.takes told c.args.limits.now in
    let same = c.plan_of.ensures.same told ∙ c.manifest_of.ensures.same told ∙ c.look_at_winners.ensures.same told in
    not_deployed c.from_residual-in_err-plan.ensures
    (turned (λ no. no) (stops_later start (stops_later look (stops_later there (stops_at _ why.stopped)))) (along_same _ _ _ _ (c.start_change.ensures.stops told) same))

pub returns-in_err-lines-clause-deploys : goal.returns-in_err-lines-clause-deploys
returns-in_err-lines-clause-deploys g c = λ told.
    let same = c.plan_of.ensures.same told ∙ c.manifest_of.ensures.same told ∙ c.look_at_winners.ensures.same told in
    not_deployed c.from_residual-in_err-lines.ensures (turned (λ no. no) (faults _ _ _ Memory _ tt) (along_same _ _ _ _ (c.start_change.ensures.stops told) same))

pub run_plan-requires : goal.run_plan-requires
run_plan-requires g c = λ told.
    let start = (c.in_ok-start_change.ensures.takes told c.args.limits.now).passed in
    let same = c.plan_of.ensures.same told ∙ c.manifest_of.ensures.same told ∙ c.look_at_winners.ensures.same told in
    let all = start.all in
    begun_open c.args.limits.now _ _ all (along_same _ _ _ _ (c.start_change.ensures.stops told) same) (subst (λ s. NoTemps (disk_of s)) (sym same) (c.in_ok-start_change.ensures.gone told))

pub returns-in_err-run_plan-clause-deploys : goal.returns-in_err-run_plan-clause-deploys
returns-in_err-run_plan-clause-deploys g c = λ told.
    let limits = c.args.limits.now in
    let start = (c.in_ok-start_change.ensures.takes told limits).passed in
    let look = (c.in_ok-look.ensures.takes told).passed in
    let there = (c.in_ok-there.ensures.takes told).passed in
    let last = (c.in_ok-plan.ensures.takes told limits).passed in
    let all = and_then start (and_then look (and_then there last)) in
    let same = c.plan_of.ensures.same told ∙ c.manifest_of.ensures.same told ∙ c.look_at_winners.ensures.same told in
    let swept = along_same _ _ _ _ (c.start_change.ensures.stops told) same in
    let gone = subst (λ s. NoTemps (disk_of s)) (sym same) (c.in_ok-start_change.ensures.gone told) in
    let settled = subst (λ s. EntriesSettled (disk_of s) (root_spot Keep)) (sym same) (c.in_ok-start_change.ensures.settled told) in
    let looked = subst (λ s. IsLooked (disk_of s) c.in_ok-look.look) (sym (c.manifest_of.ensures.same told ∙ c.look_at_winners.ensures.same told)) look.gives in
    let finds = subst (λ s. FindsPlan (disk_of s) c.in_ok-plan.plan) (sym (c.plan_of.ensures.same told)) (finds_plan _ c.in_ok-look.look c.in_ok-plan.plan looked last.gives (c.in_ok-plan.ensures.sound told) (c.in_ok-plan.ensures.leads told)) in
    let has = subst (λ s. HasManifest (disk_of s) c.in_ok-there.there) (sym (c.plan_of.ensures.same told ∙ c.manifest_of.ensures.same told)) there.gives in
    not_deployed c.from_residual-in_err-run_plan.ensures
    (stops_so limits _ _ c.in_ok-plan.plan c.in_ok-there.there finds has (begun_quiet limits _ _ start.all swept gone settled) all swept _ (c.run_plan.ensures.runs told) _ (c.in_err-run_plan.ensures.stopped told))

pub returns-in_err-run_plan-clause-cause : goal.returns-in_err-run_plan-clause-cause
returns-in_err-run_plan-clause-cause g c =
    let first = c.start_change.ensures.cause.later in
    let second = c.look_at_winners.ensures.cause.later in
    let third = c.manifest_of.ensures.cause.later in
    let fourth = c.plan_of.ensures.cause.later in
    cause_on c.from_residual-in_err-run_plan.ensures (omega (arith, first, second, third, fourth)) c.in_err-run_plan.ensures.cause

pub returns-clause-deploys : goal.returns-clause-deploys
returns-clause-deploys g c = λ told.
    let limits = c.args.limits.now in
    let plan = c.in_ok-plan.plan in
    let start = (c.in_ok-start_change.ensures.takes told limits).passed in
    let look = (c.in_ok-look.ensures.takes told).passed in
    let there = (c.in_ok-there.ensures.takes told).passed in
    let last = (c.in_ok-plan.ensures.takes told limits).passed in
    let all = and_then start (and_then look (and_then there last)) in
    let same = c.plan_of.ensures.same told ∙ c.manifest_of.ensures.same told ∙ c.look_at_winners.ensures.same told in
    let swept = along_same _ _ _ _ (c.start_change.ensures.stops told) same in
    let gone = subst (λ s. NoTemps (disk_of s)) (sym same) (c.in_ok-start_change.ensures.gone told) in
    let settled = subst (λ s. EntriesSettled (disk_of s) (root_spot Keep)) (sym same) (c.in_ok-start_change.ensures.settled told) in
    let looked = subst (λ s. IsLooked (disk_of s) c.in_ok-look.look) (sym (c.manifest_of.ensures.same told ∙ c.look_at_winners.ensures.same told)) look.gives in
    let finds = subst (λ s. FindsPlan (disk_of s) plan) (sym (c.plan_of.ensures.same told)) (finds_plan _ c.in_ok-look.look plan looked last.gives (c.in_ok-plan.ensures.sound told) (c.in_ok-plan.ensures.leads told)) in
    let has = subst (λ s. HasManifest (disk_of s) c.in_ok-there.there) (sym (c.plan_of.ensures.same told ∙ c.manifest_of.ensures.same told)) there.gives in
    let quiet = begun_quiet limits _ _ start.all swept gone settled in
    let old = g.T.Tree.story c.args.tree.now in
    let base = g.T.Tree.story c.plan_of.new.tree in
    let new = g.T.Tree.story c.run_plan.new.tree in
    let runs = c.run_plan.ensures.runs told in
    let printed : PrintsDeployed (record { start = old; base = base; end = new }) c.in_ok-lines.lines.items =
    record { plan = plan; has = finds.has; lines = c.in_ok-lines.ensures ∙ ap total_lines c.totals_of.ensures } in
    let whole = and_then all (fits_passed limits old base plan c.in_ok-there.there finds has quiet c.in_ok-run_plan.ensures.fits) in
    is_deployed _
    (done (λ no. no) whole swept (goes limits old base plan c.in_ok-there.there finds has quiet new runs) (leaves limits old base plan c.in_ok-there.there finds has quiet new runs (c.in_ok-run_plan.ensures.done told)) printed none_found)
    (saves_behind whole.story (record { plan = plan; has = finds.has; count = c.count_saves-saves.ensures }))
