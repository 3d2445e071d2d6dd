use Rattle.sample_world.specs.Parts.{files_below}
use Rattle.sample_world.specs.Worlds.{HasFiles}
use Rattle.sample_world.proofs.mods.add_mod.Given as goal

abbrev pub invariant-loop-count : goal.invariant-loop-count
invariant-loop-count l = HasFiles (files_below l.mod_index l.count) l.tree
