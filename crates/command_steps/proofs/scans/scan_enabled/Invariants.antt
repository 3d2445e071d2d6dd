use Rattle.std.proofs.Common.{◌≡◌, ◌≤◌, map, take}
use Rattle.tree_fs.specs.Story.{disk_of}
use Rattle.command_steps.proofs.Scanning.{AreScannedTo}
use Rattle.command_steps.proofs.scans.scan_enabled.Given as goal

abbrev pub invariant-loop-id : goal.invariant-loop-id
invariant-loop-id g l =
    let tree = g.T.Tree in
    record {
      same : tree.tells → tree.story l.tree ≡ tree.story l.fn.tree;
      faults : tree.faults l.fn.tree ≤ tree.faults l.tree;
      ids_are : map (λ s. s.mod_id) l.found.items ≡ take l.id-index l.ids;
      scanned : tree.tells → AreScannedTo (disk_of (tree.story l.fn.tree)) (take l.id-index l.ids) l.limits.entries l.left l.found.items;
    }
