use Rattle.std.proofs.Common.{◌≡◌, drop, nat_le}
use Rattle.profile_toml.specs.Levels.{items_levels, members_levels}
use Rattle.toml.specs.View.{items_view, members_view}
use Rattle.profile_toml.proofs.checks.+levels.Given as goal

abbrev pub invariant-array_fits-loop-item : goal.invariant-array_fits-loop-item
invariant-array_fits-loop-item l =
    nat_le (items_levels (items_view (drop l.item-index l.item-items))) l.most ≡ nat_le (items_levels (items_view l.item-items)) l.most

abbrev pub invariant-table_fits-loop-key : goal.invariant-table_fits-loop-key
invariant-table_fits-loop-key l =
    (goal.iterator-table_fits-loop-key).can_next l._key-iterator ×
    (goal.iterator-table_fits-loop-key).is_finite l._key-iterator ×
    (nat_le (members_levels (members_view l._key-iterator)) l.most ≡ nat_le (members_levels (members_view l.table.entries)) l.most)
