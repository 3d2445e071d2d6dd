use Rattle.std.proofs.Common.{◌∙◌, refl, sym, ap}
use Rattle.std.specs.Prelude.{position, not}
use Rattle.move_plan.specs.Entries.{set}
use Rattle.move_plan.specs.Tests.{back_stays_test}
use Rattle.move_plan.proofs.Failing.{of_sets}
use Rattle.move_plan.proofs.rules.first_lost_back.Goals as goal

pub returns : goal.returns
returns c =
    c.first_left.ensures ∙ ap (position (λ x. not (back_stays_test c.args.plan.now (set x)))) c.as_slice.ensures
    ∙ sym (of_sets (back_stays_test c.args.plan.now) c.args.plan.now (λ x. refl) (λ x. refl) (λ x. refl) (λ x. refl))
