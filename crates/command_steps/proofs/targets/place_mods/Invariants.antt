use Rattle.std.proofs.Common.{◌≡◌, ◌++◌, map}
use Rattle.std.specs.Map.Iter.{deref_pair}
use Rattle.command_steps.proofs.Placing.{ArePlacedTo}
use Rattle.command_steps.proofs.targets.place_mods.Given as goal

abbrev pub invariant-loop-entry : goal.invariant-loop-entry
invariant-loop-entry l = record {
  taken : map deref_pair l.yielded ++ l.entry-iterator ≡ l.fn.mods.entries;
  placed : ArePlacedTo l.profile (map deref_pair l.yielded) l.node l.scans l.placed.items l.sources.items;
}
