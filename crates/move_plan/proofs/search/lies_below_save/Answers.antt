use Rattle.std.proofs.Common.{sym}
use Rattle.tree_fs.specs.declared.place.Place.{Place}
use Rattle.move_plan.proofs.Above.{none_below}
use Rattle.move_plan.proofs.search.lies_below_save.Goals as goal

pub returns-in-None : goal.returns-in-None
returns-in-None c = sym (none_below (λ (s : Place × Place). s.1) c.args.saves.now c.args.place.now c.in-None.is)
