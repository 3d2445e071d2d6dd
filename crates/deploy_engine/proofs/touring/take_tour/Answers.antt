use Rattle.std.proofs.Common.{arith, sym, ap, refl, length, ◌∙◌}
use Rattle.list_laws.proofs.Truths.{if_err-from_same}
use Rattle.desk_model.specs.Records.{own_of}
use Rattle.command_steps.proofs.Orders.{tree_fault}
use Rattle.deploy_engine.specs.Tours.{StopsTour, failing, looking}
use Rattle.deploy_engine.proofs.Causing.{cause_on}
use Rattle.deploy_engine.proofs.Toured.{not_deployed, is_deployed, not_checked, not_purged, toured}
use Rattle.deploy_engine.proofs.touring.take_tour.Goals as goal

pub returns-in_err-seen-clause-stopped : goal.returns-in_err-seen-clause-stopped
returns-in_err-seen-clause-stopped g c = λ told.
    if_err-from_same (StopsTour c.args.limits.now _ _) c.from_residual.result _ c.from_residual.ensures.1 (looking (c.in_err-seen.ensures.takes told).stopped)

pub returns-in_err-deployment-clause-stopped : goal.returns-in_err-deployment-clause-stopped
returns-in_err-deployment-clause-stopped g c = λ told.
    let looks = (c.in_ok-seen.ensures.takes told).passed in
    if_err-from_same (StopsTour c.args.limits.now _ _) c.from_residual-in_err-deployment.result _ c.from_residual-in_err-deployment.ensures.1
    (not_deployed _ _ _ _ _ _ (c.look_around.ensures.same told) looks (c.in_err-deployment.ensures.deploys told))

pub returns-in_err-deployment-clause-cause : goal.returns-in_err-deployment-clause-cause
returns-in_err-deployment-clause-cause g c =
    let first = c.look_around.ensures.cause.later in
    cause_on c.from_residual-in_err-deployment.ensures (omega (arith, first)) c.in_err-deployment.ensures.cause

pub returns-in_err-checked-clause-stopped : goal.returns-in_err-checked-clause-stopped
returns-in_err-checked-clause-stopped g c = λ told.
    let looks = (c.in_ok-seen.ensures.takes told).passed in
    let deployed = is_deployed _ _ _ _ _ _ (c.look_around.ensures.same told) looks (c.in_ok-deployment.ensures.deploys told) in
    if_err-from_same (StopsTour c.args.limits.now _ _) c.from_residual-in_err-checked.result _ c.from_residual-in_err-checked.ensures.1
    (not_checked _ _ _ _ _ deployed (c.in_err-checked.ensures.takes told).stopped)

pub returns-in_err-checked-clause-cause : goal.returns-in_err-checked-clause-cause
returns-in_err-checked-clause-cause g c =
    let first = c.look_around.ensures.cause.later in
    let second = c.deploy_mods.ensures.cause.later in
    cause_on c.from_residual-in_err-checked.ensures (omega (arith, first, second)) c.in_err-checked.ensures.cause

pub returns-in_err-purge-clause-stopped : goal.returns-in_err-purge-clause-stopped
returns-in_err-purge-clause-stopped g c = λ told.
    let looks = (c.in_ok-seen.ensures.takes told).passed in
    let deployed = is_deployed _ _ _ _ _ _ (c.look_around.ensures.same told) looks (c.in_ok-deployment.ensures.deploys told) in
    let checks = (c.in_ok-checked.ensures.takes told).passed in
    if_err-from_same (StopsTour c.args.limits.now _ _) c.from_residual-in_err-purge.result _ c.from_residual-in_err-purge.ensures.1
    (not_purged _ _ _ _ _ _ _ deployed (c.find_changes.ensures.same told) checks (c.in_err-purge.ensures.carried told))

pub returns-in_err-purge-clause-cause : goal.returns-in_err-purge-clause-cause
returns-in_err-purge-clause-cause g c =
    let first = c.look_around.ensures.cause.later in
    let second = c.deploy_mods.ensures.cause.later in
    let third = c.find_changes.ensures.cause.later in
    cause_on c.from_residual-in_err-purge.ensures (omega (arith, first, second, third)) c.in_err-purge.ensures.cause

pub returns-in_err-plain-clause-stopped : goal.returns-in_err-plain-clause-stopped
returns-in_err-plain-clause-stopped g c = λ told.
    if_err-from_same (StopsTour c.args.limits.now _ _) c.from_residual-in_err-plain.result _ c.from_residual-in_err-plain.ensures.1 (failing (tree_fault _))

pub returns-clause-tours : goal.returns-clause-tours
returns-clause-tours g c = λ told.
    let looks = (c.in_ok-seen.ensures.takes told).passed in
    let checks = (c.in_ok-checked.ensures.takes told).passed in
    toured c.args.limits.now _ _ _ _ _ _ _ c.in_ok-deployment.deployment c.in_ok-checked.checked _ (c.look_around.ensures.same told) looks (c.in_ok-deployment.ensures.deploys told) refl
    (c.find_changes.ensures.same told) checks (c.count_folders.ensures ∙ ap (λ m. length (own_of m)) (sym checks.gives.there)) (c.count_changes.ensures ∙ ap length c.as_slice.ensures.value)
    (c.in_ok-purge.ensures.carried told) (c.count_files.ensures.same told) (c.in_ok-plain.ensures.count told)
