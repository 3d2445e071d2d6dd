use Rattle.std.proofs.Common.{◌≡◌, ◌++◌, map, length}
use Rattle.std.specs.Map.Iter.{deref_pair}
use Rattle.mod_rules.specs.Nodes.{enabled_of}
use Rattle.mod_rules.specs.Pairs.{counts_before}
use Rattle.mod_rules.proofs.nodes.counts_before.Given as goal

abbrev pub invariant-loop-entry : goal.invariant-loop-entry
invariant-loop-entry l = record {
  taken : map deref_pair l.yielded ++ l.entry-iterator ≡ l.fn.mods.entries;
  count_is : l.count ≡ length (enabled_of (map deref_pair l.yielded));
  listed : l.counts.items ≡ counts_before 0 (map deref_pair l.yielded);
}
