use Rattle.std.proofs.Common.{◌∙◌}
use Rattle.tree_mem.proofs.Entering.{one_place}
use Rattle.tree_mem.proofs.text.is_one_place.Goals as goal

pub returns : goal.returns
returns c = c.eq.ensures ∙ one_place c.args.at.now c.args.other.now
