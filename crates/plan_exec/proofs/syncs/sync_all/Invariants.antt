use Rattle.std.proofs.Common.{◌≤◌, take}
use Rattle.std.specs.List.{Contains}
use Rattle.tree_fs.specs.declared.place.Place.{Place}
use Rattle.tree_fs.specs.Spot.{spot_of}
use Rattle.tree_fs.specs.Story.{disk_of}
use Rattle.tree_fs.specs.Calls.{IsFolder}
use Rattle.tree_fs.specs.Frames.{Syncs, EntriesSettled}
use Rattle.plan_exec.specs.Counts.{Runs}
use Rattle.plan_exec.proofs.syncs.sync_all.Given as goal

abbrev pub invariant-loop-folder : goal.invariant-loop-folder
invariant-loop-folder g l =
    let tree = g.T.Tree in
    record {
      stops : tree.tells → Runs l.folder-index (Syncs (disk_of (tree.story l.fn.tree))) (tree.story l.fn.tree) (tree.story l.tree);
      done : tree.tells → (p : Place) → Contains (take l.folder-index l.folders) p → IsFolder (disk_of (tree.story l.fn.tree)) (spot_of p) → EntriesSettled (disk_of (tree.story l.tree)) (spot_of p);
      faults : tree.faults l.fn.tree ≤ tree.faults l.tree;
    }
