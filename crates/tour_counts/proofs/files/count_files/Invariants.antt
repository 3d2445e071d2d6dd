use Rattle.std.proofs.Common.{◌≡◌, ◌≤◌, ◌∷◌, [], map}
use Rattle.std.specs.List.{AllByRecursion}
use Rattle.tree_fs.specs.Calls.{IsFolder}
use Rattle.tree_fs.specs.Spot.{spot_of, root_spot}
use Rattle.tree_fs.specs.Story.{disk_of}
use Rattle.tour_counts.proofs.Walking.{GoesOn}
use Rattle.tour_counts.proofs.files.count_files.Given as goal

abbrev pub invariant-loop : goal.invariant-loop
invariant-loop g l =
    let tree = g.T.Tree in
    record {
      same : tree.tells → tree.story l.tree ≡ tree.story l.fn.tree;
      faults : tree.faults l.fn.tree ≤ tree.faults l.tree;
      folders : tree.tells → AllByRecursion (IsFolder (disk_of (tree.story l.fn.tree))) (map spot_of l.folders.items);
      counts : tree.tells → GoesOn (disk_of (tree.story l.fn.tree)) (root_spot l.fn.root ∷ []) (map spot_of l.folders.items) l.count;
    }
