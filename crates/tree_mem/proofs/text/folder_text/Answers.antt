use Rattle.std.proofs.Common.{◌∙◌, ap, sym}
use Rattle.tree_fs.specs.Spot.{names_below}
use Rattle.tree_mem.specs.Keys.{folder_names}
use Rattle.tree_mem.proofs.Names.{folder_names-held}
use Rattle.tree_mem.proofs.text.folder_text.Goals as goal

pub returns-in-Some : goal.returns-in-Some
returns-in-Some c = ap folder_names c.text.ensures.same ∙ folder_names-held _ c.text.ensures.held ∙ ap names_below (sym c.in-Some.is)

pub returns-in-None : goal.returns-in-None
unfolding folder_names
returns-in-None c = ap names_below (sym c.in-None.is)
