use Rattle.std.proofs.Common.{◌≡◌, ◌≤◌, ◌-◌, take}
use Rattle.tree_fs.specs.Spot.{spot_of}
use Rattle.tree_fs.specs.Parts.{bytes_at}
use Rattle.tree_fs.specs.Story.{disk_of}
use Rattle.intent_journal.proofs.bytes.control_bytes.Given as goal

abbrev pub invariant-loop-done : goal.invariant-loop-done
invariant-loop-done g l =
    let tree = g.T.Tree in
    record {
      within : l.done ≤ l.size;
      same : tree.tells → tree.story l.tree ≡ tree.story l.fn.tree;
      faults : tree.faults l.fn.tree ≤ tree.faults l.tree;
      holds : tree.tells → l.bytes.items ≡ take l.done (bytes_at (disk_of (tree.story l.fn.tree)) (spot_of l.at));
    }

abbrev pub decreases-loop-done : goal.decreases-loop-done
decreases-loop-done g l = l.size - l.done
