use Rattle.std.proofs.Common.{sym}
use Rattle.tree_fs.specs.declared.place.Place.{Place}
use Rattle.move_plan.proofs.Earlier.{no_from}
use Rattle.move_plan.proofs.marks.saved_source.Goals as goal

pub returns-in-None : goal.returns-in-None
returns-in-None c = sym (no_from (λ (s : Place × Place). s.1) c.args.saves.now c.args.row.now c.in-None.is)
