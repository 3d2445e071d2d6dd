use Rattle.std.proofs.Common.{◌∙◌, sym, ap, map}
use Rattle.std.specs.Option.{option_or}
use Rattle.std.specs.declared.option.Option.TheVariants.{None}
use Rattle.tree_fs.specs.declared.place.Place.{Place}
use Rattle.move_plan.specs.declared.plan.SetRow.{SetRow}
use Rattle.move_plan.specs.Tests.{is_before, is_behind}
use Rattle.move_plan.specs.Rising.{first_out}
use Rattle.move_plan.proofs.Failing.{out_of_entries, or_chain}
use Rattle.move_plan.proofs.rules.first_out_of_order.Goals as goal

pub returns : goal.returns
returns c =
    let out = first_out is_before 0 None in
    let folders = c.first_not_above.ensures ∙ ap (λ xs. out (map (λ p. p) xs)) c.as_slice.ensures in
    let saves = c.first_not_above-2.ensures ∙ ap (λ xs. out (map (λ (s : Place × Place). s.1) xs)) c.as_slice-2.ensures in
    let sets = c.first_not_above-3.ensures ∙ ap (λ xs. out (map (λ (row : SetRow). row.to) xs)) c.as_slice-3.ensures in
    let clears = c.first_not_above-4.ensures ∙ ap (λ xs. out (map (λ p. p) xs)) c.as_slice-4.ensures in
    let off = c.first_not_below.ensures ∙ ap (first_out is_behind 0 None) c.as_slice-5.ensures in
    or_chain _ _ _ _ _ _ _ _ _ c.or.ensures c.or-2.ensures c.or-3.ensures c.or-4.ensures
    ∙ (λ i. option_or (folders i) (option_or (saves i) (option_or (sets i) (option_or (clears i) (off i)))))
    ∙ sym (out_of_entries c.args.plan.now)
