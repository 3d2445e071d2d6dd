use Rattle.std.proofs.Common.{◌≡◌, ◌++◌, map, None, find}
use Rattle.std.specs.List.{flat_map}
use Rattle.std.specs.Map.Iter.{deref_pair}
use Rattle.mod_rules.specs.Nodes.{enabled_of}
use Rattle.mod_rules.specs.Checks.{is_failing, rules_of}
use Rattle.mod_rules.proofs.checks.check_rules.Given as goal

abbrev pub invariant-loop-id : goal.invariant-loop-id
invariant-loop-id l = record {
  taken : map deref_pair l.yielded ++ l.id-iterator ≡ l.mods.entries;
  none : find (is_failing l.mods.entries) (flat_map rules_of (enabled_of (map deref_pair l.yielded))) ≡ None;
}
