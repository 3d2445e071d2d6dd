use Rattle.std.proofs.Common.{sym, ◌∙◌}
use Rattle.exec_tests.proofs.plans.sound_plan.Goals as goal

pub returns-then-is_ok : goal.returns-then-is_ok
returns-then-is_ok g c = c.check_plan.ensures.passes.0 (sym c.is_ok.ensures.value ∙ c.if-is_ok.true)
