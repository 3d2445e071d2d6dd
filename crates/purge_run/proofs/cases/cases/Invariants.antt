use Rattle.std.proofs.Common.{◌≡◌, ◌≤◌, None, map, take}
use Rattle.tree_fs.specs.Story.{disk_of}
use Rattle.purge_run.specs.Refusals.{first_in_the_way}
use Rattle.purge_run.specs.Told.{told, case_seen}
use Rattle.purge_run.proofs.cases.cases.Given as goal

abbrev pub invariant-loop-row : goal.invariant-loop-row
invariant-loop-row g l =
    let tree = g.T.Tree in
    let a = disk_of (tree.story l.fn.tree) in
    let done = take l.row-index l.rows in
    record {
      same : tree.tells → tree.story l.tree ≡ tree.story l.fn.tree;
      later : tree.faults l.fn.tree ≤ tree.faults l.tree;
      rows : map (λ c. c.row.now) l.cases.items ≡ done;
      so_far : tree.tells → map case_seen l.cases.items ≡ map (told a) done;
      free : tree.tells → first_in_the_way a done ≡ None;
    }
