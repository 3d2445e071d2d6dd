use Rattle.std.proofs.Common.{◌≡◌, take}
use Rattle.command_steps.specs.Mods.{mod_names}
use Rattle.command_steps.proofs.mods.mod_ids.Given as goal

abbrev pub invariant-loop-entry : goal.invariant-loop-entry
invariant-loop-entry l = l.ids.items ≡ mod_names (take l.entry-index l.entries)
