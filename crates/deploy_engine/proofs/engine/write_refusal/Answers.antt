use Rattle.std.proofs.Common.{◌∙◌, subst}
use Rattle.deploy_engine.specs.declared.answer.Answer.TheVariants.{Refused}
use Rattle.deploy_engine.specs.Answers.{Ends, IsThis}
use Rattle.deploy_engine.proofs.engine.write_refusal.Goals as goal

pub returns-clause-ends : goal.returns-clause-ends
returns-clause-ends g c =
    subst (λ text. Ends (IsThis (Refused c.args.refusal) text) g.K.Sink.tells (g.K.Sink.written c.args.sink.now) (g.K.Sink.written c.write_text.new.sink) c.write_text.result)
    (c.as_slice.ensures.value ∙ c.in-Ok.ensures) c.write_text.ensures.ends
