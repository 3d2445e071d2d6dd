use Rattle.std.proofs.Common.{◌≡◌, ◌≤◌, ◌++◌, take, drop, None}
use Rattle.tree_fs.specs.Story.{disk_of}
use Rattle.manifest_json.specs.Paths.{AreRising}
use Rattle.manifest_json.specs.Records.{paths_of}
use Rattle.change_detect.specs.Classes.{class_of}
use Rattle.change_detect.specs.Changes.{changes_by, change_paths}
use Rattle.change_detect.specs.Refusals.{first_blocked}
use Rattle.change_detect.specs.Tests.{told_by}
use Rattle.change_detect.proofs.changes.row_changes.Given as goal

abbrev pub invariant-loop-row : goal.invariant-loop-row
invariant-loop-row g l =
    let tree = g.T.Tree in
    let disk = disk_of (tree.story l.fn.tree) in
    let done = take l.row-index l.rows in
    record {
      order : AreRising (change_paths l.changes.items ++ paths_of (drop l.row-index l.rows));
      same : tree.tells → tree.story l.tree ≡ tree.story l.fn.tree;
      faults : tree.faults l.fn.tree ≤ tree.faults l.tree;
      found : tree.tells → l.changes.items ≡ changes_by (λ r. told_by l.fn.test (class_of disk r)) done;
      free : tree.tells → first_blocked disk done ≡ None;
    }
