use Rattle.std.proofs.Common.{refl}
use Rattle.plan_run.proofs.run.ready_for.Goals as goal

pub prepare-requires : goal.prepare-requires
prepare-requires c = c.in_ok-check_plan.ensures.passes.0 refl
