use Rattle.std.proofs.Common.{subst, sym}
use Rattle.tree_fs.specs.Texts.{IsHeldRel}
use Rattle.tree_fs.proofs.Parses.{place_fault-text}
use Rattle.tree_fs.proofs.place.Place.is_held.Goals as goal

pub returns-in-Some : goal.returns-in-Some
returns-in-Some c = place_fault-text c.args.self.now (subst IsHeldRel (sym c.in-Some.is) c.text.ensures.held)

pub returns-in-None : goal.returns-in-None
returns-in-None c = place_fault-text c.args.self.now (subst IsHeldRel (sym c.in-None.is) tt)
