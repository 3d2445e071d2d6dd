use Rattle.std.proofs.Common.{◌≡◌, ◌++◌, map}
use Rattle.std.specs.Map.Iter.{deref_pair}
use Rattle.mod_rules.specs.Nodes.{enabled_of}
use Rattle.command_steps.proofs.look.enabled_ids.Given as goal

abbrev pub invariant-loop-id : goal.invariant-loop-id
invariant-loop-id l = record {
  taken : map deref_pair l.yielded ++ l.id-iterator ≡ l.fn.mods.entries;
  ids_are : l.ids.items ≡ map (λ m. m.0) (enabled_of (map deref_pair l.yielded));
}
