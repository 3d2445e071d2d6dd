use Rattle.std.proofs.Common.{sym, ap, ◌∙◌}
use Rattle.tree_fs.specs.Spot.{names_below}
use Rattle.tree_fs.proofs.Spots.{not_nameless}
use Rattle.test_worlds.proofs.needs.need_no_root.Goals as goal

pub returns-in-Some : goal.returns-in-Some
returns-in-Some c = λ e. not_nameless c.in-Some.field-0 (sym (ap names_below c.in-Some.is) ∙ e)
