use Rattle.std.proofs.Common.{arith, refl, sym}
use Rattle.move_plan.proofs.Entries.{fault-not_passed}
use Rattle.move_plan.proofs.Checked.{none_passed, one_more_passed, all_passed, is_fault, passed_searchable}
use Rattle.move_plan.proofs.check.check_plan.Goals as goal

pub loop-rule-init : goal.loop-rule-init
loop-rule-init c = (omega arith, none_passed c.args.plan.now)

pub first_failing-requires-clause-searchable : goal.first_failing-requires-clause-searchable
first_failing-requires-clause-searchable c = λ more. passed_searchable c.loop-rule.rule c.args.plan.now more c.loop-rule.invariant.1

pub loop-rule-preserved : goal.loop-rule-preserved
loop-rule-preserved c =
    (omega (arith, c.loop-rule.invariant.0), one_more_passed c.loop-rule.rule c.args.plan.now c.loop-rule.invariant.1 (sym c.in_default.ensures))

pub returns-in-Some-clause-passes : goal.returns-in-Some-clause-passes
returns-in-Some-clause-passes c =
    let fault = is_fault c.loop-rule.rule c.in-Some.at c.args.plan.now c.loop-rule.invariant.0 c.loop-rule-test.true c.loop-rule.invariant.1 (sym c.in-Some.ensures) in
    (λ ok. cc, λ passes. absurd (fault-not_passed c.args.plan.now c.loop-rule.rule c.in-Some.at fault passes))

pub returns-in-Some-clause-fault : goal.returns-in-Some-clause-fault
returns-in-Some-clause-fault c =
    is_fault c.loop-rule.rule c.in-Some.at c.args.plan.now c.loop-rule.invariant.0 c.loop-rule-test.true c.loop-rule.invariant.1 (sym c.in-Some.ensures)

pub returns-clause-passes : goal.returns-clause-passes
returns-clause-passes c =
    (λ _. all_passed c.loop-rule.rule c.args.plan.now (omega (arith, c.loop-rule-test.false)) c.loop-rule.invariant.1, λ _. refl)
