use Rattle.std.proofs.Common.{◌≡◌, ◌++◌, ℕ, map, length}
use Rattle.std.specs.BTreeSet.{contains}
use Rattle.std.specs.List.{list_any}
use Rattle.std.specs.Map.Iter.{deref_pair}
use Rattle.mod_rules.specs.Nodes.{enabled_of}
use Rattle.mod_rules.specs.Edges.{edge_cmp}
use Rattle.mod_rules.specs.Pairs.{pairs_of, is_edge}
use Rattle.mod_rules.proofs.edges.graph_of.Given as goal

abbrev pub invariant-loop-entry : goal.invariant-loop-entry
invariant-loop-entry l = record {
  taken : map deref_pair l.yielded ++ l.entry-iterator ≡ l.mods.entries;
  count_is : l.count ≡ length (enabled_of (map deref_pair l.yielded));
  found : (q : ℕ × ℕ) → contains edge_cmp l.edges q ≡ list_any (λ e. is_edge e q) (pairs_of l.mods.entries 0 (enabled_of (map deref_pair l.yielded)));
}
