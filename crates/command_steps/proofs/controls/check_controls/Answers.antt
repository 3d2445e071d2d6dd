use Rattle.std.proofs.Common.{◌∙◌, arith}
use Rattle.command_steps.proofs.Orders.{takes_err}
use Rattle.command_steps.proofs.Guarding.{unguarded_at, fine_next, any_limits}
use Rattle.command_steps.proofs.controls.check_controls.Goals as goal

pub returns-in_err-check_fine-clause-takes : goal.returns-in_err-check_fine-clause-takes
returns-in_err-check_fine-clause-takes g c = λ told limits.
    takes_err _ _ c.from_residual.ensures
    (unguarded_at c.in_order-which-items.result.now c.loop-which.which-index _ limits _ _ _ _ c.in_order-which-items.ensures c.loop-which-test.true (c.loop-which.invariant.same told) (c.loop-which.invariant.fine told) (c.in_err-check_fine.ensures.takes told limits).stopped)

pub loop-which-preserved : goal.loop-which-preserved
loop-which-preserved g c =
    let so_far = c.loop-which.invariant.faults in
    let later = c.in_ok-check_fine.ensures.cause.later in
    record {
      same = λ told. c.in_ok-check_fine.ensures.same told ∙ c.loop-which.invariant.same told;
      faults = omega (arith, so_far, later);
      fine = λ told. fine_next c.in_order-which-items.result.now c.loop-which.which-index _ any_limits _ _ _ _ c.loop-which-test.true (c.loop-which.invariant.same told) (c.loop-which.invariant.fine told)
          (c.in_ok-check_fine.ensures.takes told any_limits).passed;
    }
