use Rattle.std.proofs.Common.{◌≡◌, ◌++◌, map, reverse, length}
use Rattle.stage_scan.specs.Stack.{entry_below}
use Rattle.stage_scan.proofs.pending.push_entries.Given as goal

abbrev pub invariant-loop-entry : goal.invariant-loop-entry
invariant-loop-entry l = l.stack.items ++ map (entry_below l.above) (reverse l.entries.items) ≡ l.fn.stack.items ++ map (entry_below l.above) (reverse l.fn.entries.items)

abbrev pub decreases-loop-entry : goal.decreases-loop-entry
decreases-loop-entry l = length l.entries.items
