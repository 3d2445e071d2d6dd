use Rattle.std.proofs.Common.{◌≡◌, ◌≤◌, ℕ, List, length, map, drop}
use Rattle.std.specs.List.{Contains}
use Rattle.tree_fs.specs.Story.{disk_of}
use Rattle.move_plan.specs.declared.plan.Plan.{Plan}
use Rattle.plan_lists.specs.Search.{AreFalling}
use Rattle.plan_lists.specs.Off.{GoesByOwn, AreParted}
use Rattle.plan_lists.proofs.folders.own_folders.Given as goal

abbrev pub invariant-loop-index : goal.invariant-loop-index
invariant-loop-index g l =
    let tree = g.T.Tree in
    let a = disk_of (tree.story l.fn.tree) in
    let files = map g.P.Pathed.path l.files in
    record {
      within : l.index ≤ length l.own;
      same : tree.tells → tree.story l.tree ≡ tree.story l.fn.tree;
      later : tree.faults l.fn.tree ≤ tree.faults l.tree;
      falling : AreFalling l.found.off.items;
      among : (q : List ℕ) → Contains l.found.off.items q → Contains (drop l.index l.own) q;
      kept : (q : List ℕ) → Contains l.found.kept.items q → Contains l.own q;
      parted : tree.tells → (plan : Plan) → GoesByOwn a l.own files l.emptied plan → AreParted a l.own files plan (drop l.index l.own) l.found.kept.items l.found.off.items;
    }

abbrev pub decreases-loop-index : goal.decreases-loop-index
decreases-loop-index g l = l.index
