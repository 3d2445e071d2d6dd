use Rattle.std.proofs.Common.{◌≡◌, ◌++◌, map}
use Rattle.std.specs.List.{AllByRecursion}
use Rattle.std.specs.Map.{values_of}
use Rattle.toml.specs.View.{view}
use Rattle.profile_toml.specs.Documents.{override_data}
use Rattle.profile_toml.specs.Kept.{IsOverride}
use Rattle.profile_toml.proofs.print.overrides_value.Given as goal

abbrev pub invariant-loop-path : goal.invariant-loop-path
invariant-loop-path l =
    (goal.iterator-loop-path).can_next l._path-iterator ×
    (goal.iterator-loop-path).is_finite l._path-iterator ×
    (map view l.array.items ++ map override_data (values_of l._path-iterator) ≡ map override_data (values_of l.fn.overrides.entries)) ×
    (AllByRecursion IsOverride (values_of l._path-iterator) → AllByRecursion IsOverride (values_of l.fn.overrides.entries))
