use Rattle.tree_mem.proofs.Maps.{AreNames-after, Changes-from_update}
use Rattle.tree_mem.proofs.entries.Entries.set.Goals as goal

pub invariant_of-self : goal.invariant_of-self
invariant_of-self c = record { named = AreNames-after c.insert.result _ _ c.args.name c.args.item c.insert.ensures.entries c.insert.ensures.err c.requires c.args.self.now.named }

pub returns-clause-ok : goal.returns-clause-ok
returns-clause-ok c = Changes-from_update _ _ _ _ c.in_ok-insert.ensures.updates
