use Rattle.std.proofs.Common.{take}
use Rattle.tree_fs.specs.Listing.{entry_names}
use Rattle.backup_keep.specs.Asides.{IsGreatest}
use Rattle.backup_keep.proofs.number.greatest.Given as goal

abbrev pub invariant-loop-entry : goal.invariant-loop-entry
invariant-loop-entry l = IsGreatest (entry_names (take l.entry-index l.entries)) l.greatest
