use Rattle.std.proofs.Common.{◌≡◌, ◌++◌, map}
use Rattle.std.specs.Map.Iter.{deref_pair}
use Rattle.profile_toml.specs.Plain.{plain_override}
use Rattle.command_steps.proofs.overrides.plain_list.Given as goal

abbrev pub invariant-loop-entry : goal.invariant-loop-entry
invariant-loop-entry l = record {
  taken : map deref_pair l.yielded ++ l.entry-iterator ≡ l.fn.overrides.entries;
  all_are : l.all.items ≡ map (λ e. plain_override e.1.path e.1.mod_id) (map deref_pair l.yielded);
}
