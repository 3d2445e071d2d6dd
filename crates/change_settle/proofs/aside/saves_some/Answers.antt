use Rattle.std.proofs.Common.{map, refl, sym, ◌∙◌, subst, true≢false}
use Rattle.std.proofs.lemmas.List.{take_all}
use Rattle.change_settle.specs.Steps.{SavesSome, step_task}
use Rattle.change_settle.proofs.Saving.{saving_none, saving_here, saving_more}
use Rattle.change_settle.proofs.aside.saves_some.Goals as goal

pub loop-step-init : goal.loop-step-init
loop-step-init c = saving_none

pub returns-then-is_saving : goal.returns-then-is_saving
returns-then-is_saving c = (λ t. saving_here c.args.steps.now c.loop-step.step-index c.step-item.result c.loop-step-test.true c.step-item.is (c.is_saving.ensures.0 c.if-is_saving.true), λ h. refl)

pub loop-step-preserved : goal.loop-step-preserved
loop-step-preserved c =
    saving_more c.args.steps.now c.loop-step.step-index c.step-item.result c.loop-step-test.true c.step-item.is c.loop-step.invariant (λ e. true≢false (sym (c.is_saving.ensures.1 e) ∙ c.if-is_saving.false))

pub returns : goal.returns
returns c = (
  λ t. absurd (true≢false (sym t)),
  λ h. absurd (c.loop-step.invariant (subst (λ l. SavesSome (map step_task l)) (sym (take_all c.loop-step.step-index c.args.steps.now c.loop-step-test.false)) h)),
)
