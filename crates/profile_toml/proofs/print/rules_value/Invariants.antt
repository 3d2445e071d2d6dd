use Rattle.std.proofs.Common.{◌≡◌, ◌++◌, map, length}
use Rattle.std.specs.List.{AllByRecursion}
use Rattle.std.specs.Vec.Iter.{into_iter_items, into_iter_len}
use Rattle.toml.specs.View.{view}
use Rattle.profile_toml.specs.Documents.{rule_data}
use Rattle.profile_toml.specs.Kept.{IsRule}
use Rattle.profile_toml.proofs.print.rules_value.Given as goal

abbrev pub invariant-loop-rule : goal.invariant-loop-rule
invariant-loop-rule l = record {
  taken : l.yielded ++ into_iter_items l.rule-iterator ≡ l.fn.rules.items;
  length_is : into_iter_len l.rule-iterator ≡ length (into_iter_items l.rule-iterator);
  made : map view l.array.items ≡ map rule_data l.yielded;
  kept : AllByRecursion IsRule l.yielded;
}
