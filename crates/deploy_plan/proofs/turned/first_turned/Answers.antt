use Rattle.std.proofs.Common.{map, subst}
use Rattle.std.specs.Prelude.{MatchOption}
use Rattle.std.specs.List.{AllByRecursion}
use Rattle.std.proofs.lemmas.List.{take_all}
use Rattle.deploy_plan.specs.Steps.{IsNotTurned, TurnsAt}
use Rattle.deploy_plan.specs.Told.{step_seen}
use Rattle.deploy_plan.proofs.Walked.{free_next, first_to_turn}
use Rattle.deploy_plan.proofs.turned.first_turned.Goals as goal

pub loop-step-preserved : goal.loop-step-preserved
loop-step-preserved c =
    let rows = c.args.rows.now in
    let step = step_seen c.step-item.result in
    free_next step_seen c.args.steps.now c.loop-step.step-index c.step-item.result c.loop-step-test.true c.step-item.is (IsNotTurned rows) c.loop-step.invariant
    (subst (λ o. MatchOption o (IsNotTurned rows step) (TurnsAt rows step)) c.in_default.is c.in_ok-found.ensures)

pub returns-in-Some : goal.returns-in-Some
returns-in-Some c =
    let rows = c.args.rows.now in
    let step = step_seen c.step-item.result in
    first_to_turn step_seen c.args.steps.now c.loop-step.step-index c.step-item.result c.loop-step-test.true c.step-item.is rows c.in-Some.path c.loop-step.invariant
    (subst (λ o. MatchOption o (IsNotTurned rows step) (TurnsAt rows step)) c.in-Some.is c.in_ok-found.ensures)

pub returns : goal.returns
returns c = subst (λ l. AllByRecursion (IsNotTurned c.args.rows.now) (map step_seen l)) (take_all c.loop-step.step-index c.args.steps.now c.loop-step-test.false) c.loop-step.invariant
