use Rattle.std.proofs.Common.{◌||◌, ◌∙◌, not, refl, sym}
use Rattle.std.specs.Prelude.{position}
use Rattle.tree_fs.specs.declared.place.Place.{Place}
use Rattle.move_plan.specs.Tests.{has_key, is_source, is_save_to, moves_some, clear_is_used_test}
use Rattle.move_plan.proofs.Failing.{of_clears, idle_clears, moved_clears}
use Rattle.move_plan.proofs.rules.first_unused_clear.Goals as goal

pub returns-then-not-moves_some : goal.returns-then-not-moves_some
returns-then-not-moves_some c =
    let plan = c.args.plan.now in
    sym (of_clears (clear_is_used_test plan) plan (λ x. refl) (λ x. refl) (λ x. refl) (λ x. refl)
    ∙ idle_clears (moves_some plan) (λ p. is_source plan.sets p || is_save_to plan p) plan.clears (sym c.moves_some.ensures ∙ c.if-not-moves_some.true))

pub returns : goal.returns
returns c =
    let plan = c.args.plan.now in
    c.first_unused.ensures
    ∙ (λ i. position (λ p. not (is_source (c.as_slice-3.ensures i) p || has_key (λ (s : Place × Place). s.1) (c.as_slice-2.ensures i) p)) (c.as_slice.ensures i))
    ∙ moved_clears (moves_some plan) (λ p. is_source plan.sets p || is_save_to plan p) plan.clears (sym c.moves_some.ensures ∙ c.if-not-moves_some.false)
    ∙ sym (of_clears (clear_is_used_test plan) plan (λ x. refl) (λ x. refl) (λ x. refl) (λ x. refl))
