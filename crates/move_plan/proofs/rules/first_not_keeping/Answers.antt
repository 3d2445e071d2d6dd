use Rattle.std.proofs.Common.{◌∙◌, not, refl, sym, ap}
use Rattle.std.specs.Prelude.{position}
use Rattle.std.specs.Option.{option_or}
use Rattle.tree_fs.specs.declared.place.Place.{Place}
use Rattle.move_plan.specs.Entries.{clear}
use Rattle.move_plan.specs.Tests.{is_keeping, keeping_test}
use Rattle.move_plan.proofs.Failing.{of_saves_and_clears}
use Rattle.move_plan.proofs.rules.first_not_keeping.Goals as goal

pub returns : goal.returns
returns c =
    let plan = c.args.plan.now in
    let saves = c.first_save_not_keeping.ensures ∙ ap (position (λ (s : Place × Place). not (is_keeping s.1))) c.as_slice.ensures in
    let clears = c.first_clear_not_keeping.ensures ∙ ap (position (λ p. not (keeping_test plan (clear p)))) c.as_slice-2.ensures in
    c.or.ensures ∙ (λ i. option_or (saves i) (clears i))
    ∙ sym (of_saves_and_clears (keeping_test plan) plan (λ x. refl) (λ x. refl) (λ x. refl))
