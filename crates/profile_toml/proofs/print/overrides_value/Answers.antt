use Rattle.std.proofs.Common.{◌≡◌, ◌∷◌, ◌++◌, [], map, ap, sym, subst, ◌∙◌}
use Rattle.std.specs.List.{AllByRecursion}
use Rattle.std.specs.Map.{values_of}
use Rattle.toml.specs.Data.{array}
use Rattle.toml.specs.View.{view, items_of}
use Rattle.toml.proofs.Views.{view-Array}
use Rattle.profile_toml.specs.Documents.{override_data}
use Rattle.profile_toml.specs.Kept.{IsOverride}
use Rattle.profile_toml.proofs.Printed.{printed_more, printed_all}
use Rattle.profile_toml.proofs.print.overrides_value.Goals as goal

pub loop-path-init : goal.loop-path-init
loop-path-init c =
    let gives = c.into_iter-path-iterator.ensures.into_iter_gives in
    (tt, tt, λ i. map view (c.new-array.ensures.items i) ++ map override_data (values_of (gives.0 i)), λ h. subst (λ es. AllByRecursion IsOverride (values_of es)) gives.0 h)

pub loop-path-preserved : goal.loop-path-preserved
loop-path-preserved c =
    let at = c.loop-path in
    let step : at._path-iterator ≡ (c.in-Some._path, c.in-Some.entry) ∷ c.next.new.self = c.in-Some.ensures.steps in (
      tt,
      tt,
      ap (λ l. map view l ++ map override_data (values_of c.next.new.self)) c.in_ok-add.ensures
          ∙ printed_more override_data at.array.items c.in_ok-value.value c.in-Some.entry (values_of c.next.new.self) (values_of at._path-iterator) (map override_data (values_of c.args.overrides.entries)) c.in_ok-value.ensures.data (ap values_of step) at.invariant.2,
      λ h. at.invariant.3 (subst (AllByRecursion IsOverride) (sym (ap values_of step)) (c.in_ok-value.ensures.kept, h)),
    )

pub loop-path-preserved-in_ok-add : goal.loop-path-preserved-in_ok-add
loop-path-preserved-in_ok-add c =
    let at = c.loop-path in
    let step : at._path-iterator ≡ (c.in-Some._path, c.in-Some.entry) ∷ c.next.new.self = c.in-Some.ensures.steps in (
      tt,
      tt,
      ap (λ l. map view l ++ map override_data (values_of c.next.new.self)) c.in_ok-add.ensures
          ∙ printed_more override_data at.array.items c.in_ok-value.value c.in-Some.entry (values_of c.next.new.self) (values_of at._path-iterator) (map override_data (values_of c.args.overrides.entries)) c.in_ok-value.ensures.data (ap values_of step) at.invariant.2,
      λ h. at.invariant.3 (subst (AllByRecursion IsOverride) (sym (ap values_of step)) (c.in_ok-value.ensures.kept, h)),
    )

pub returns-clause-data : goal.returns-clause-data
returns-clause-data c =
    let at = c.loop-path in
    view-Array at.array
    ∙ ap (λ l. array (items_of l)) (printed_all override_data at.array.items (values_of at._path-iterator) (map override_data (values_of c.args.overrides.entries)) (ap values_of c.in-None.ensures.steps.0) at.invariant.2)

pub returns-clause-kept : goal.returns-clause-kept
returns-clause-kept c = c.loop-path.invariant.3 (subst (AllByRecursion IsOverride) (sym (ap values_of c.in-None.ensures.steps.0)) tt)
