use Rattle.std.proofs.Common.{◌≡◌, ◌++◌, map, true, length}
use Rattle.std.specs.Vec.Iter.{into_iter_items, into_iter_len}
use Rattle.profile_toml.specs.Plain.{plain_mod}
use Rattle.profile_toml.proofs.profile.default_profile.Given as goal

abbrev pub invariant-loop-id : goal.invariant-loop-id
invariant-loop-id l = record {
  taken : l.yielded ++ into_iter_items l.id-iterator ≡ l.fn.ids.items;
  length_is : into_iter_len l.id-iterator ≡ length (into_iter_items l.id-iterator);
  made : l.mods.entries ≡ map (λ id. (id, plain_mod true)) l.yielded;
}
