use Rattle.tree_mem.proofs.Clones.{AreNames-clone, SameTexts-clone}
use Rattle.tree_mem.proofs.entries.EntriesClone.clone.Goals as goal

pub invariant_of-result : goal.invariant_of-result
invariant_of-result c = record { named = AreNames-clone _ c.args.self.now.items.entries c.in_ok-clone.field-0.entries c.in_ok-clone.ensures.cases c.args.self.now.named }

pub returns : goal.returns
returns c = record { cases = SameTexts-clone _ (λ v w e. e) c.args.self.now.items c.in_ok-clone.field-0 c.in_ok-clone.ensures.cases }
