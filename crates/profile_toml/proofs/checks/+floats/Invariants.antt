use Rattle.std.proofs.Common.{◌≡◌, drop}
use Rattle.profile_toml.specs.Floats.{items_have_float, members_have_float}
use Rattle.toml.specs.View.{items_view, members_view}
use Rattle.profile_toml.proofs.checks.+floats.Given as goal

abbrev pub invariant-array_has_float-loop-item : goal.invariant-array_has_float-loop-item
invariant-array_has_float-loop-item l =
    items_have_float (items_view (drop l.item-index l.item-items)) ≡ items_have_float (items_view l.item-items)

abbrev pub invariant-table_has_float-loop-key : goal.invariant-table_has_float-loop-key
invariant-table_has_float-loop-key l =
    (goal.iterator-table_has_float-loop-key).can_next l._key-iterator ×
    (goal.iterator-table_has_float-loop-key).is_finite l._key-iterator ×
    (members_have_float (members_view l._key-iterator) ≡ members_have_float (members_view l.table.entries))
