use Rattle.std.proofs.Common.{◌∙◌, not, refl, sym, ap}
use Rattle.std.specs.Prelude.{position}
use Rattle.std.specs.Option.{option_or}
use Rattle.tree_fs.specs.declared.place.Root.TheVariants.{Game}
use Rattle.tree_fs.specs.declared.place.Place.{Place}
use Rattle.tree_fs.specs.Spot.{root_eq}
use Rattle.move_plan.specs.declared.plan.SetRow.{SetRow}
use Rattle.move_plan.specs.Entries.{folder}
use Rattle.move_plan.specs.Tests.{lies_apart, apart_test}
use Rattle.move_plan.proofs.Failing.{of_all_but_clears, or_chain_3}
use Rattle.move_plan.proofs.rules.first_not_apart.Goals as goal

pub returns : goal.returns
returns c =
    let plan = c.args.plan.now in
    let folders = c.first_folder_not_apart.ensures ∙ ap (position (λ p. not (apart_test plan (folder p)))) c.as_slice.ensures in
    let saves = c.first_save_not_apart.ensures ∙ ap (position (λ (s : Place × Place). not (lies_apart plan s.1))) c.as_slice-2.ensures in
    let sets = c.first_set_not_apart.ensures ∙ ap (position (λ (row : SetRow). not (lies_apart plan row.to))) c.as_slice-3.ensures in
    let off = c.first_not_in_game.ensures ∙ ap (position (λ (p : Place). not (root_eq p.root Game))) c.as_slice-4.ensures in
    or_chain_3 _ _ _ _ _ _ _ c.or.ensures c.or-2.ensures c.or-3.ensures
    ∙ (λ i. option_or (folders i) (option_or (saves i) (option_or (sets i) (off i))))
    ∙ sym (of_all_but_clears (apart_test plan) plan (λ x. refl))
