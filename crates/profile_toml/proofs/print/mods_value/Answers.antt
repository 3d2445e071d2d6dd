use Rattle.std.proofs.Common.{◌≡◌, ◌∷◌, ◌++◌, [], map, ap, sym, subst, ◌∙◌}
use Rattle.std.specs.List.{AllByRecursion}
use Rattle.toml.specs.Data.{array}
use Rattle.toml.specs.View.{view, items_of}
use Rattle.toml.proofs.Views.{view-Array}
use Rattle.profile_toml.specs.Documents.{mod_data}
use Rattle.profile_toml.specs.Kept.{IsMod}
use Rattle.profile_toml.proofs.Printed.{printed_more, printed_all}
use Rattle.profile_toml.proofs.print.mods_value.Goals as goal

pub loop-id-init : goal.loop-id-init
loop-id-init c =
    let gives = c.into_iter-id-iterator.ensures.into_iter_gives in
    (tt, tt, λ i. map view (c.new-array.ensures.items i) ++ map mod_data (gives.0 i), λ h. subst (AllByRecursion IsMod) gives.0 h)

pub loop-id-preserved : goal.loop-id-preserved
loop-id-preserved c =
    let at = c.loop-id in
    let step : at.id-iterator ≡ (c.in-Some.id, c.in-Some.entry) ∷ c.next.new.self = c.in-Some.ensures.steps in (
      tt,
      tt,
      ap (λ l. map view l ++ map mod_data c.next.new.self) c.in_ok-add.ensures
          ∙ printed_more mod_data at.array.items c.in_ok-value.value (c.in-Some.id, c.in-Some.entry) c.next.new.self at.id-iterator (map mod_data c.args.mods.entries) c.in_ok-value.ensures.data step at.invariant.2,
      λ h. at.invariant.3 (subst (AllByRecursion IsMod) (sym step) (c.in_ok-value.ensures.kept, h)),
    )

pub returns-clause-data : goal.returns-clause-data
returns-clause-data c =
    let at = c.loop-id in
    view-Array at.array ∙ ap (λ l. array (items_of l)) (printed_all mod_data at.array.items at.id-iterator (map mod_data c.args.mods.entries) c.in-None.ensures.steps.0 at.invariant.2)

pub returns-clause-kept : goal.returns-clause-kept
returns-clause-kept c = c.loop-id.invariant.3 (subst (AllByRecursion IsMod) (sym c.in-None.ensures.steps.0) tt)
