use Rattle.std.proofs.Common.{map, refl, sym, ◌∙◌, subst, true≢false}
use Rattle.std.proofs.lemmas.List.{take_all}
use Rattle.purge_run.specs.Told.{HasOver, case_seen}
use Rattle.purge_run.proofs.Looked.{over_none, over_more, over_here}
use Rattle.purge_run.proofs.aside.sets_aside.Goals as goal

pub loop-case-init : goal.loop-case-init
loop-case-init c = over_none

pub returns-then-is_over : goal.returns-then-is_over
returns-then-is_over c = (λ t. over_here c.args.cases.now c.loop-case.case-index c.case-item.result c.loop-case-test.true c.case-item.is (c.is_over.ensures.0 c.if-is_over.true), λ h. refl)

pub loop-case-preserved : goal.loop-case-preserved
loop-case-preserved c =
    over_more c.args.cases.now c.loop-case.case-index c.case-item.result c.loop-case-test.true c.case-item.is c.loop-case.invariant (λ e. true≢false (sym (c.is_over.ensures.1 e) ∙ c.if-is_over.false))

pub returns : goal.returns
returns c = (
  λ t. absurd (true≢false (sym t)),
  λ h. absurd (c.loop-case.invariant (subst (λ l. HasOver (map case_seen l)) (sym (take_all c.loop-case.case-index c.args.cases.now c.loop-case-test.false)) h)),
)
