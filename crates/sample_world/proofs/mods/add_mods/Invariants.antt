use Rattle.sample_world.specs.Parts.{mods_below}
use Rattle.sample_world.specs.Worlds.{HasFiles}
use Rattle.sample_world.proofs.mods.add_mods.Given as goal

abbrev pub invariant-loop-mod_index : goal.invariant-loop-mod_index
invariant-loop-mod_index l = HasFiles (mods_below l.mod_index) l.tree
