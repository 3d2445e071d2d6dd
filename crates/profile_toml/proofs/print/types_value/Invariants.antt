use Rattle.std.proofs.Common.{◌≡◌, ◌++◌, map, length}
use Rattle.std.specs.List.{AllByRecursion}
use Rattle.std.specs.Vec.Iter.{into_iter_items, into_iter_len}
use Rattle.toml.specs.View.{view}
use Rattle.profile_toml.specs.Documents.{type_data}
use Rattle.profile_toml.specs.Kept.{IsType}
use Rattle.profile_toml.proofs.print.types_value.Given as goal

abbrev pub invariant-loop-entry : goal.invariant-loop-entry
invariant-loop-entry l = record {
  taken : l.yielded ++ into_iter_items l.entry-iterator ≡ l.fn.types.items;
  length_is : into_iter_len l.entry-iterator ≡ length (into_iter_items l.entry-iterator);
  made : map view l.array.items ≡ map type_data l.yielded;
  kept : AllByRecursion IsType l.yielded;
}
