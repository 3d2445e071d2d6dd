use Rattle.command_steps.proofs.Orders.{takes_err}
use Rattle.command_steps.proofs.Planning.{purge_why, purge_passes}
use Rattle.command_steps.proofs.purge.purge_over.Goals as goal

pub returns-in_err-purge_plan-clause-takes : goal.returns-in_err-purge_plan-clause-takes
returns-in_err-purge_plan-clause-takes g c = λ told limits.
    takes_err _ _ c.from_residual.ensures (purge_why limits _ _ c.args.old.now (c.in_err-purge_plan.ensures.same told) (c.requires told) c.in_err-purge_plan.field-0.0 (c.in_err-purge_plan.ensures.refused told))

pub returns-clause-takes : goal.returns-clause-takes
returns-clause-takes g c = λ told limits.
    purge_passes limits _ _ c.args.old.now (c.in_ok-purge_plan.ensures.same told) (c.requires told) c.in_ok-purge_plan.field-0 (c.in_ok-purge_plan.ensures.planned told) (c.in_ok-purge_plan.ensures.passes told)
