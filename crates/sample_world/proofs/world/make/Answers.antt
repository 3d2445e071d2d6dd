use Rattle.sample_world.proofs.Trees.{tree_new}
use Rattle.sample_world.proofs.world.make.Goals as goal

pub add_mods-requires : goal.add_mods-requires
add_mods-requires c = tree_new c.in_ok-tree.tree c.in_ok-tree.ensures.begins c.in_ok-tree.ensures.faults c.in_ok-tree.ensures.plan
