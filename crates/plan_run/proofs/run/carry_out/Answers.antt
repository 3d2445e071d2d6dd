use Rattle.std.proofs.Common.{◌≡◌, ◌+◌, ◌*◌, length, sym, subst}
use Rattle.list_laws.proofs.Truths.{if_err-from_same}
use Rattle.rel_paths.specs.declared.control.Control.TheVariants as control
use Rattle.tree_fs.specs.Story.{disk_of}
use Rattle.move_plan.specs.Rules.{PassesRules}
use Rattle.intent_journal.specs.Ready.{HasFolders}
use Rattle.intent_journal.proofs.Counting.{syncs_more}
use Rattle.plan_exec.specs.Ending.{CanExecute, IsPlanned, StopsOldOrNew}
use Rattle.plan_run.specs.Concerned.{AreConcerned}
use Rattle.plan_run.specs.Errors.{of_exec}
use Rattle.plan_run.specs.Runs.{IsRunError, IsUnbegun, CanCome}
use Rattle.plan_run.proofs.Idle.{idle_executed}
use Rattle.plan_run.proofs.Running.{executes, quiet_leaves, unbegun_stops, unbegun_keeps, unbegun_mid, run_keeps, ready_comes, exec_comes, exec_fault, exec_begun, exec_cause, not_both}
use Rattle.plan_run.proofs.Syncs.{at_most_four}
use Rattle.plan_run.proofs.run.carry_out.Goals as goal

-- an idle plan

pub returns-then-is_idle-clause-done : goal.returns-then-is_idle-clause-done
returns-then-is_idle-clause-done g c = λ told can. idle_executed c.args.plan _ _ can (c.is_idle.ensures.0 c.if-is_idle.true)

pub returns-then-is_idle-clause-stops : goal.returns-then-is_idle-clause-stops
returns-then-is_idle-clause-stops g c = λ told can. unbegun_stops c.args.plan (g.T.Tree.story c.args.tree.now) can.quiet

pub returns-then-is_idle-clause-leaves : goal.returns-then-is_idle-clause-leaves
returns-then-is_idle-clause-leaves g c = λ told can. let a = disk_of (g.T.Tree.story c.args.tree.now) in quiet_leaves a can.quiet (IsPlanned a c.args.plan)

pub returns-then-is_idle-clause-keeps : goal.returns-then-is_idle-clause-keeps
returns-then-is_idle-clause-keeps g c = λ told can. unbegun_keeps c.args.plan (g.T.Tree.story c.args.tree.now) can.quiet

pub returns-then-is_idle-clause-mid : goal.returns-then-is_idle-clause-mid
returns-then-is_idle-clause-mid g c = λ told can. unbegun_mid c.args.plan (g.T.Tree.story c.args.tree.now) can.quiet

-- a plan that can't be made ready

pub returns-in_err-ready-clause-stops : goal.returns-in_err-ready-clause-stops
returns-in_err-ready-clause-stops g c = λ told can. unbegun_stops c.args.plan (g.T.Tree.story c.args.tree.now) can.quiet

pub returns-in_err-ready-clause-leaves : goal.returns-in_err-ready-clause-leaves
returns-in_err-ready-clause-leaves g c = λ told can. let a = disk_of (g.T.Tree.story c.args.tree.now) in quiet_leaves a can.quiet (IsPlanned a c.args.plan)

pub returns-in_err-ready-clause-keeps : goal.returns-in_err-ready-clause-keeps
returns-in_err-ready-clause-keeps g c = λ told can. unbegun_keeps c.args.plan (g.T.Tree.story c.args.tree.now) can.quiet

pub returns-in_err-ready-clause-mid : goal.returns-in_err-ready-clause-mid
returns-in_err-ready-clause-mid g c = λ told can. unbegun_mid c.args.plan (g.T.Tree.story c.args.tree.now) can.quiet

pub returns-in_err-ready-clause-never : goal.returns-in_err-ready-clause-never
returns-in_err-ready-clause-never g c = λ told can.
    let e = c.in_err-ready.field-0.0 in
    if_err-from_same CanCome c.from_residual.result e c.from_residual.ensures.1 (ready_comes c.args.plan c.args.most e can.sound.rules c.in_err-ready.ensures.err)

-- the steps

pub execute-requires-clause-temp : goal.execute-requires-clause-temp
execute-requires-clause-temp g c = λ told. c.requires told control.IntentTemp

pub execute-requires-clause-intent : goal.execute-requires-clause-intent
execute-requires-clause-intent g c = λ told. c.requires told control.Intent

pub execute-requires-clause-manifest_temp : goal.execute-requires-clause-manifest_temp
execute-requires-clause-manifest_temp g c = λ told. c.requires told control.ManifestTemp

pub execute-requires-clause-manifest : goal.execute-requires-clause-manifest
execute-requires-clause-manifest g c = λ told. c.requires told control.Manifest

pub returns-in_err-execute-clause-keeps : goal.returns-in_err-execute-clause-keeps
returns-in_err-execute-clause-keeps g c = λ told can.
    let s = g.T.Tree.story c.args.tree.now in
    let t = g.T.Tree.story c.execute.new.tree in
    let same = c.in_ok-ready.ensures.same in
    let ready = subst (λ p. CanExecute p (disk_of s)) (sym same) (executes c.args.plan _ (disk_of s) can) in
    run_keeps c.args.plan _ s t can (subst (λ p. StopsOldOrNew (IsPlanned (disk_of s) p) s t) same (c.execute.ensures.stops told ready)) (c.execute.ensures.keeps told ready)

pub returns-in_err-execute-clause-never : goal.returns-in_err-execute-clause-never
returns-in_err-execute-clause-never g c = λ told can.
    let e = c.in_err-execute.field-0.0 in
    let ready = subst (λ p. CanExecute p (disk_of (g.T.Tree.story c.args.tree.now))) (sym c.in_ok-ready.ensures.same) (executes c.args.plan _ (disk_of (g.T.Tree.story c.args.tree.now)) can) in
    if_err-from_same CanCome c.from_residual-in_err-execute.result (of_exec e) c.from_residual-in_err-execute.ensures.1 (exec_comes e (c.in_err-execute.ensures.never told ready))

pub returns-in_err-execute-clause-err : goal.returns-in_err-execute-clause-err
returns-in_err-execute-clause-err g c =
    let e = c.in_err-execute.field-0.0 in
    if_err-from_same (IsRunError c.args.plan _ c.args.most) c.from_residual-in_err-execute.result (of_exec e) c.from_residual-in_err-execute.ensures.1
    (λ idle. not_both c.is_idle.result c.if-is_idle.false (c.is_idle.ensures.1 idle), exec_fault c.args.plan c.args.most e c.in_ok-ready.ensures.fits)

pub returns-in_err-execute-clause-unbegun : goal.returns-in_err-execute-clause-unbegun
returns-in_err-execute-clause-unbegun g c = λ told.
    let e = c.in_err-execute.field-0.0 in
    if_err-from_same (λ x. IsUnbegun x → g.T.Tree.story c.execute.new.tree ≡ g.T.Tree.story c.args.tree.now) c.from_residual-in_err-execute.result (of_exec e) c.from_residual-in_err-execute.ensures.1 (λ unbegun. absurd (exec_begun e unbegun))

pub returns-in_err-execute-clause-syncs : goal.returns-in_err-execute-clause-syncs
returns-in_err-execute-clause-syncs g c = λ told folders are.
    let synced = c.ready.inside.folders in
    let is : c.ready.inside.plan ≡ c.in_ok-ready.ready = c.ready.view_is in
    let has = subst (λ p. HasFolders p synced) is c.ready.invariant.folders in
    let passes = subst PassesRules is c.ready.invariant.rules in
    let concerned = subst (λ p. AreConcerned p folders) (sym c.in_ok-ready.ensures.same) are in
    syncs_more _ (4 * length folders + 5) _ _ (at_most_four c.in_ok-ready.ready folders concerned passes synced has)
    (c.execute.ensures.syncs told synced.saves synced.sets synced.clears has.saves has.sets has.clears)

pub returns-in_err-execute-clause-cause : goal.returns-in_err-execute-clause-cause
returns-in_err-execute-clause-cause g c =
    exec_cause (g.T.Tree.faults c.args.tree.now) (g.T.Tree.faults c.execute.new.tree) c.from_residual-in_err-execute.result c.execute.result c.in_err-execute.field-0.0 c.from_residual-in_err-execute.ensures.1 c.in_err-execute.was c.execute.ensures.cause

pub returns-clause-keeps : goal.returns-clause-keeps
returns-clause-keeps g c = λ told can.
    let s = g.T.Tree.story c.args.tree.now in
    let t = g.T.Tree.story c.execute.new.tree in
    let same = c.in_ok-ready.ensures.same in
    let ready = subst (λ p. CanExecute p (disk_of s)) (sym same) (executes c.args.plan _ (disk_of s) can) in
    run_keeps c.args.plan _ s t can (subst (λ p. StopsOldOrNew (IsPlanned (disk_of s) p) s t) same (c.execute.ensures.stops told ready)) (c.execute.ensures.keeps told ready)

pub returns-clause-syncs : goal.returns-clause-syncs
returns-clause-syncs g c = λ told folders are.
    let synced = c.ready.inside.folders in
    let is : c.ready.inside.plan ≡ c.in_ok-ready.ready = c.ready.view_is in
    let has = subst (λ p. HasFolders p synced) is c.ready.invariant.folders in
    let passes = subst PassesRules is c.ready.invariant.rules in
    let concerned = subst (λ p. AreConcerned p folders) (sym c.in_ok-ready.ensures.same) are in
    syncs_more _ (4 * length folders + 5) _ _ (at_most_four c.in_ok-ready.ready folders concerned passes synced has)
    (c.execute.ensures.syncs told synced.saves synced.sets synced.clears has.saves has.sets has.clears)
