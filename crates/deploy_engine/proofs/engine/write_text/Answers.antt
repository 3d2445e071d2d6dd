use Rattle.std.proofs.Common.{ap, sym, subst}
use Rattle.std.specs.declared.result.Result.TheVariants.{Err}
use Rattle.fault_count.specs.Rose.{Rose}
use Rattle.deploy_engine.specs.Answers.{Caused}
use Rattle.deploy_engine.proofs.Telling.{sink_causes}
use Rattle.deploy_engine.proofs.engine.write_text.Goals as goal

pub returns-in-Err-clause-causes : goal.returns-in-Err-clause-causes
returns-in-Err-clause-causes g c =
    subst (Caused ⊥ ⊥ (Rose (g.K.Sink.faults c.args.sink.now) (g.K.Sink.faults c.push_all.new.sink))) (sym c.sink_answer.ensures)
    (sink_causes _ c.in-Err.error (λ is. c.in-Err.ensures.cause.failed (ap Err is)))
