use Rattle.std.proofs.Common.{◌≡◌, ◌++◌, map}
use Rattle.std.specs.List.{AllByRecursion}
use Rattle.toml.specs.View.{view}
use Rattle.profile_toml.specs.Documents.{mod_data}
use Rattle.profile_toml.specs.Kept.{IsMod}
use Rattle.profile_toml.proofs.print.mods_value.Given as goal

abbrev pub invariant-loop-id : goal.invariant-loop-id
invariant-loop-id l =
    (goal.iterator-loop-id).can_next l.id-iterator ×
    (goal.iterator-loop-id).is_finite l.id-iterator ×
    (map view l.array.items ++ map mod_data l.id-iterator ≡ map mod_data l.fn.mods.entries) ×
    (AllByRecursion IsMod l.id-iterator → AllByRecursion IsMod l.fn.mods.entries)
