use Rattle.command_steps.proofs.Orders.{takes_then, takes_err, stops_at}
use Rattle.command_steps.proofs.controls.check_start.Goals as goal

pub returns-in_err-check_controls-clause-takes : goal.returns-in_err-check_controls-clause-takes
returns-in_err-check_controls-clause-takes g c = λ told limits. takes_err _ _ c.from_residual.ensures (stops_at _ (c.in_err-check_controls.ensures.takes told limits).stopped)

pub returns-clause-takes : goal.returns-clause-takes
returns-clause-takes g c = λ told limits. takes_then _ (c.in_ok-check_controls.ensures.takes told limits).passed (c.check_no_intent.ensures.takes told limits)
