use Rattle.std.proofs.Common.{◌≡◌, ◌≤◌, ◌-◌, take}
use Rattle.sha2.specs.Hashers.{Holds256}
use Rattle.tree_fs.specs.Spot.{spot_of}
use Rattle.tree_fs.specs.Parts.{bytes_at}
use Rattle.tree_fs.specs.Story.{disk_of}
use Rattle.stage_scan.proofs.digest.digest_of.Given as goal

abbrev pub invariant-loop-done : goal.invariant-loop-done
invariant-loop-done g l =
    let tree = g.T.Tree in
    record {
      within : l.done ≤ l.size;
      same : tree.tells → tree.story l.tree ≡ tree.story l.fn.tree;
      faults : tree.faults l.fn.tree ≤ tree.faults l.tree;
      holds : tree.tells → Holds256 l.hasher (take l.done (bytes_at (disk_of (tree.story l.fn.tree)) (spot_of l.at)));
    }

abbrev pub decreases-loop-done : goal.decreases-loop-done
decreases-loop-done g l = l.size - l.done
