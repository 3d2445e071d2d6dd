use Rattle.std.proofs.Common.{◌≡◌, ◌++◌}
use Rattle.std.specs.Map.{values_of}
use Rattle.profile_toml.proofs.read_types.into_types.Given as goal

abbrev pub invariant-loop-id : goal.invariant-loop-id
invariant-loop-id l =
    (goal.iterator-loop-id).can_next l._id-iterator ×
    (goal.iterator-loop-id).is_finite l._id-iterator ×
    (l.list.items ++ values_of l._id-iterator ≡ values_of l.fn.types.entries)
