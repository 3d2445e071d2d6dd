use Rattle.std.proofs.Common.{◌≡◌, drop}
use Rattle.profile_toml.specs.Faults.{first_fault}
use Rattle.profile_edit.specs.Upgrades.{mod_key}
use Rattle.profile_edit.proofs.upgrade.key_of_mods.Given as goal

abbrev pub invariant-loop-index : goal.invariant-loop-index
invariant-loop-index l = first_fault mod_key l.index (drop l.index l.mods.entries) ≡ first_fault mod_key 0 l.mods.entries
