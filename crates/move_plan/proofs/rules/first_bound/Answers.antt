use Rattle.std.proofs.Common.{◌∙◌, not, sym, ap}
use Rattle.std.specs.Prelude.{position}
use Rattle.std.specs.Option.{option_or}
use Rattle.move_plan.specs.Entries.{save, set}
use Rattle.move_plan.specs.Tests.{is_free, avoids_controls_test}
use Rattle.move_plan.proofs.Failing.{of_entries, or_chain}
use Rattle.move_plan.proofs.rules.first_bound.Goals as goal

pub returns : goal.returns
returns c =
    let places = position (λ p. not (is_free p)) in
    let folders = c.first_not_free.ensures ∙ ap places c.as_slice.ensures in
    let saves = c.first_bound_save.ensures ∙ ap (position (λ s. not (avoids_controls_test (save s)))) c.as_slice-2.ensures in
    let sets = c.first_bound_set.ensures ∙ ap (position (λ row. not (avoids_controls_test (set row)))) c.as_slice-3.ensures in
    let clears = c.first_not_free-2.ensures ∙ ap places c.as_slice-4.ensures in
    let off = c.first_not_free-3.ensures ∙ ap places c.as_slice-5.ensures in
    or_chain _ _ _ _ _ _ _ _ _ c.or.ensures c.or-2.ensures c.or-3.ensures c.or-4.ensures
    ∙ (λ i. option_or (folders i) (option_or (saves i) (option_or (sets i) (option_or (clears i) (off i)))))
    ∙ sym (of_entries avoids_controls_test c.args.plan.now)
