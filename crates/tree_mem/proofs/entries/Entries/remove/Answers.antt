use Rattle.std.proofs.Common.{sym, subst}
use Rattle.tree_mem.specs.Keys.{AreNames}
use Rattle.tree_mem.proofs.Maps.{AreNames-remove, Changes-from_update}
use Rattle.tree_mem.proofs.entries.Entries.remove.Goals as goal

pub invariant_of-self : goal.invariant_of-self
invariant_of-self c = record { named = subst AreNames (sym c.remove.ensures.entries) (AreNames-remove _ c.args.self.now.items.entries c.args.self.now.named) }

pub returns : goal.returns
returns c = Changes-from_update _ _ _ _ c.remove.ensures.updates
