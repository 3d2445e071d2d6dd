use Rattle.std.proofs.Common.{◌≡◌, ◌≤◌, map, take}
use Rattle.std.specs.List.{Contains}
use Rattle.tree_fs.specs.Spot.{Spot, spot_of}
use Rattle.tree_fs.specs.Story.{disk_of}
use Rattle.change_settle.specs.Above.{AreLooked}
use Rattle.change_settle.proofs.looks.look_at.Given as goal

abbrev pub invariant-loop-place : goal.invariant-loop-place
invariant-loop-place g l =
    let tree = g.T.Tree in
    record {
      same : tree.tells → tree.story l.tree ≡ tree.story l.fn.tree;
      later : tree.faults l.fn.tree ≤ tree.faults l.tree;
      among : (s : Spot) → Contains (map spot_of l.looked.missing.items) s → Contains (map spot_of (take l.place-index l.folders)) s;
      so_far : tree.tells → AreLooked (disk_of (tree.story l.fn.tree)) (map spot_of (take l.place-index l.folders)) (map spot_of l.looked.missing.items) (map spot_of l.looked.blocked.items);
    }
