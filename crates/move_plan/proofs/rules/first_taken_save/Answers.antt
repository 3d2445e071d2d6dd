use Rattle.std.proofs.Common.{◌≡◌, ◌||◌, ◌∙◌, not, refl, sym, ap, true, false, Bool}
use Rattle.std.specs.Prelude.{position}
use Rattle.list_laws.proofs.Truths.{same_function}
use Rattle.tree_fs.specs.declared.place.Place.{Place}
use Rattle.move_plan.specs.declared.plan.SetRow.{SetRow}
use Rattle.move_plan.specs.Tests.{has_key, is_source, save_stays_test}
use Rattle.move_plan.proofs.Failing.{of_saves}
use Rattle.move_plan.proofs.rules.first_taken_save.Goals as goal

twice : (b : Bool) → b ≡ not (not b)
twice true = refl
twice false = refl

pub returns : goal.returns
returns c =
    let plan = c.args.plan.now in
    c.first_taken.ensures
    ∙ (λ i. position (λ (s : Place × Place). has_key (λ (row : SetRow). row.to) (c.as_slice-2.ensures i) s.1 || is_source (c.as_slice-2.ensures i) s.1) (c.as_slice.ensures i))
    ∙ ap (λ t. position t plan.saves) (same_function _ _ (λ s. twice (has_key (λ (row : SetRow). row.to) plan.sets s.1 || is_source plan.sets s.1)))
    ∙ sym (of_saves (save_stays_test plan) plan (λ x. refl) (λ x. refl) (λ x. refl) (λ x. refl))
