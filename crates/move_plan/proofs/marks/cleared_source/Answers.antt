use Rattle.std.proofs.Common.{sym}
use Rattle.move_plan.proofs.Earlier.{no_from}
use Rattle.move_plan.proofs.marks.cleared_source.Goals as goal

pub returns-in-None : goal.returns-in-None
returns-in-None c = sym (no_from (λ p. p) c.args.clears.now c.args.row.now c.in-None.is)
