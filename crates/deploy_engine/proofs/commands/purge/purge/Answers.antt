use Rattle.std.proofs.Common.{sym, ap, subst, ◌∙◌, length}
use Rattle.tree_fs.specs.declared.place.Root.TheVariants.{Keep}
use Rattle.tree_fs.specs.Spot.{root_spot}
use Rattle.tree_fs.specs.Frames.{EntriesSettled}
use Rattle.tree_fs.specs.Story.{disk_of}
use Rattle.tree_fs.proofs.Moments.{along_same}
use Rattle.plan_exec.specs.Ending.{NoTemps}
use Rattle.answer_lines.specs.declared.totals.Totals.TheVariants as totals
use Rattle.answer_lines.specs.Told.{total_lines}
use Rattle.command_steps.specs.declared.stop.Stop.TheVariants.{Memory}
use Rattle.command_steps.specs.Manifests.{HasManifest}
use Rattle.command_steps.proofs.Orders.{and_then, stops_at, stops_later, faults}
use Rattle.deploy_engine.specs.PurgeWork.{PrintsPurged}
use Rattle.deploy_engine.proofs.Beginning.{begun_open, begun_quiet}
use Rattle.deploy_engine.proofs.Carrying.{hand_on, turned, done, none_found}
use Rattle.deploy_engine.proofs.Purging.{FindsPurge, counted_there, goes, leaves, fits_passed, stops_so}
use Rattle.deploy_engine.proofs.commands.purge.purge.Goals as goal

pub returns-in_err-start_change-clause-carried : goal.returns-in_err-start_change-clause-carried
returns-in_err-start_change-clause-carried g c = λ told.
    let why = c.in_err-start_change.ensures.takes told c.args.limits.now in
    hand_on c.from_residual.ensures (turned (λ no. no) (stops_at _ why.stopped) (c.start_change.ensures.stops told))

pub returns-in_err-there-clause-carried : goal.returns-in_err-there-clause-carried
returns-in_err-there-clause-carried g c = λ told.
    let start = (c.in_ok-start_change.ensures.takes told c.args.limits.now).passed in
    let why = c.in_err-there.ensures.takes told in
    hand_on c.from_residual-in_err-there.ensures
    (turned (λ no. no) (stops_later start (stops_at _ why.stopped)) (along_same _ _ _ _ (c.start_change.ensures.stops told) (c.manifest_of.ensures.same told)))

pub purge_of-requires : goal.purge_of-requires
purge_of-requires g c = λ told.
    subst (λ s. HasManifest (disk_of s) c.in_ok-there.there) (sym (c.manifest_of.ensures.same told)) (c.in_ok-there.ensures.takes told).passed.gives

pub returns-in_err-plan-clause-carried : goal.returns-in_err-plan-clause-carried
returns-in_err-plan-clause-carried g c = λ told.
    let start = (c.in_ok-start_change.ensures.takes told c.args.limits.now).passed in
    let there = (c.in_ok-there.ensures.takes told).passed in
    let why = c.in_err-plan.ensures.takes told c.args.limits.now in
    let same = c.purge_of.ensures.same told ∙ c.manifest_of.ensures.same told in
    hand_on c.from_residual-in_err-plan.ensures
    (turned (λ no. no) (stops_later start (stops_later there (stops_at _ why.stopped))) (along_same _ _ _ _ (c.start_change.ensures.stops told) same))

pub returns-in_err-lines-clause-carried : goal.returns-in_err-lines-clause-carried
returns-in_err-lines-clause-carried g c = λ told.
    let same = c.purge_of.ensures.same told ∙ c.manifest_of.ensures.same told in
    hand_on c.from_residual-in_err-lines.ensures (turned (λ no. no) (faults _ _ _ Memory _ tt) (along_same _ _ _ _ (c.start_change.ensures.stops told) same))

pub run_plan-requires : goal.run_plan-requires
run_plan-requires g c = λ told.
    let start = (c.in_ok-start_change.ensures.takes told c.args.limits.now).passed in
    let same = c.purge_of.ensures.same told ∙ c.manifest_of.ensures.same told in
    let all = start.all in
    begun_open c.args.limits.now _ _ all (along_same _ _ _ _ (c.start_change.ensures.stops told) same) (subst (λ s. NoTemps (disk_of s)) (sym same) (c.in_ok-start_change.ensures.gone told))

pub returns-in_err-run_plan-clause-carried : goal.returns-in_err-run_plan-clause-carried
returns-in_err-run_plan-clause-carried g c = λ told.
    let limits = c.args.limits.now in
    let start = (c.in_ok-start_change.ensures.takes told limits).passed in
    let there = (c.in_ok-there.ensures.takes told).passed in
    let last = (c.in_ok-plan.ensures.takes told limits).passed in
    let all = and_then start (and_then there last) in
    let same = c.purge_of.ensures.same told ∙ c.manifest_of.ensures.same told in
    let swept = along_same _ _ _ _ (c.start_change.ensures.stops told) same in
    let gone = subst (λ s. NoTemps (disk_of s)) (sym same) (c.in_ok-start_change.ensures.gone told) in
    let settled = subst (λ s. EntriesSettled (disk_of s) (root_spot Keep)) (sym same) (c.in_ok-start_change.ensures.settled told) in
    let finds = subst (λ s. FindsPurge (disk_of s) c.in_ok-plan.plan) (sym (c.purge_of.ensures.same told)) (record { has = last.gives; sound = c.in_ok-plan.ensures.sound told; leads = c.in_ok-plan.ensures.leads told }) in
    let has = subst (λ s. HasManifest (disk_of s) c.in_ok-there.there) (sym same) there.gives in
    hand_on c.from_residual-in_err-run_plan.ensures
    (stops_so limits _ _ c.in_ok-plan.plan c.in_ok-there.there finds has (begun_quiet limits _ _ start.all swept gone settled) all swept _ (c.run_plan.ensures.runs told) _ (c.in_err-run_plan.ensures.stopped told))

pub returns-clause-carried : goal.returns-clause-carried
returns-clause-carried g c = λ told.
    let limits = c.args.limits.now in
    let plan = c.in_ok-plan.plan in
    let old = g.T.Tree.story c.args.tree.now in
    let base = g.T.Tree.story c.purge_of.new.tree in
    let new = g.T.Tree.story c.run_plan.new.tree in
    let start = (c.in_ok-start_change.ensures.takes told limits).passed in
    let there = (c.in_ok-there.ensures.takes told).passed in
    let last = (c.in_ok-plan.ensures.takes told limits).passed in
    let all = and_then start (and_then there last) in
    let same = c.purge_of.ensures.same told ∙ c.manifest_of.ensures.same told in
    let swept = along_same _ _ _ _ (c.start_change.ensures.stops told) same in
    let gone = subst (λ s. NoTemps (disk_of s)) (sym same) (c.in_ok-start_change.ensures.gone told) in
    let settled = subst (λ s. EntriesSettled (disk_of s) (root_spot Keep)) (sym same) (c.in_ok-start_change.ensures.settled told) in
    let finds = subst (λ s. FindsPurge (disk_of s) plan) (sym (c.purge_of.ensures.same told)) (record { has = last.gives; sound = c.in_ok-plan.ensures.sound told; leads = c.in_ok-plan.ensures.leads told }) in
    let has = subst (λ s. HasManifest (disk_of s) c.in_ok-there.there) (sym (c.purge_of.ensures.same told ∙ c.manifest_of.ensures.same told)) there.gives in
    let quiet = begun_quiet limits _ _ start.all swept gone settled in
    let runs = c.run_plan.ensures.runs told in
    let counted = ap (λ n. total_lines (totals.Purged n (length plan.sets) (length plan.saves))) (counted_there (disk_of base) c.in_ok-there.there has) in
    let printed : PrintsPurged (record { start = old; base = base; end = new }) c.in_ok-lines.lines.items =
    record { plan = plan; has = finds.has; lines = c.in_ok-lines.ensures ∙ ap total_lines c.totals_of.ensures ∙ counted } in
    let whole = and_then all (fits_passed limits old base plan c.in_ok-there.there finds has quiet c.in_ok-run_plan.ensures.fits) in
    done (λ no. no) whole swept (goes limits old base plan c.in_ok-there.there finds has quiet new runs) (leaves limits old base plan c.in_ok-there.there finds has quiet new runs (c.in_ok-run_plan.ensures.done told)) printed none_found
