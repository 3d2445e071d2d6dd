use Rattle.std.proofs.Common.{◌≡◌, ◌++◌, map}
use Rattle.tree_mem.specs.Kinds.{entry_of}
use Rattle.tree_mem.proofs.entries.Entries.list.Given as goal

abbrev pub invariant-loop-name : goal.invariant-loop-name
invariant-loop-name l = l.listed.items ++ map entry_of l.name-iterator ≡ map entry_of l.self.items.entries
