use Rattle.std.proofs.Common.{◌∙◌, refl, sym, ap}
use Rattle.std.specs.Prelude.{position, not}
use Rattle.move_plan.specs.Entries.{save}
use Rattle.move_plan.specs.Tests.{save_is_back_test}
use Rattle.move_plan.proofs.Failing.{of_saves}
use Rattle.move_plan.proofs.rules.first_lost_save.Goals as goal

pub returns : goal.returns
returns c =
    c.first_lost.ensures ∙ ap (position (λ x. not (save_is_back_test c.args.plan.now (save x)))) c.as_slice.ensures
    ∙ sym (of_saves (save_is_back_test c.args.plan.now) c.args.plan.now (λ x. refl) (λ x. refl) (λ x. refl) (λ x. refl))
