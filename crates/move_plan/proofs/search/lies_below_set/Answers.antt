use Rattle.std.proofs.Common.{sym}
use Rattle.move_plan.specs.declared.plan.SetRow.{SetRow}
use Rattle.move_plan.proofs.Above.{none_below}
use Rattle.move_plan.proofs.search.lies_below_set.Goals as goal

pub returns-in-None : goal.returns-in-None
returns-in-None c = sym (none_below (λ (row : SetRow). row.to) c.args.sets.now c.args.place.now c.in-None.is)
