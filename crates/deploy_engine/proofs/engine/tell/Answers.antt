use Rattle.std.proofs.Common.{ap, ◌∙◌}
use Rattle.std.specs.declared.result.Result.TheVariants.{Ok, Err}
use Rattle.deploy_engine.specs.Answers.{IsSaid, IsThis}
use Rattle.deploy_engine.proofs.Telling.{ends_weaken}
use Rattle.deploy_engine.proofs.engine.tell.Goals as goal

pub returns-in-Ok-clause-ends : goal.returns-in-Ok-clause-ends
returns-in-Ok-clause-ends g c =
    rw c.in-Ok.is
    (ends_weaken (IsThis c.done_answer-answer.result c.as_slice.result.now) (IsSaid (Ok c.in-Ok.report)) _ _ _
    (λ a t this. (this.0 ∙ c.done_answer-answer.ensures.is, this.1 ∙ c.as_slice.ensures.value)) _ c.write_text.ensures.ends)

pub returns-in-Err-RecoverFirst-clause-ends : goal.returns-in-Err-RecoverFirst-clause-ends
returns-in-Err-RecoverFirst-clause-ends g c = rw (c.in-Err-RecoverFirst.is ∙ ap Err c.in-Err-RecoverFirst.field-0-is) c.write_fixed.ensures.ends
