use Rattle.tree_mem.proofs.Clones.{cloned}
use Rattle.tree_mem.proofs.folders.copy_folders.Goals as goal

pub returns : goal.returns
returns c = cloned _ c.args.folders.now c.clone.result c.clone.ensures.cases
