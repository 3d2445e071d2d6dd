use Rattle.std.proofs.Common.{take}
use Rattle.plan_lists.specs.Off.{AllLeave}
use Rattle.plan_lists.proofs.folders.entries_leave.Given as goal

abbrev pub invariant-loop-entry : goal.invariant-loop-entry
invariant-loop-entry l = AllLeave l.folder l.emptied l.off (take l.entry-index l.entries)
