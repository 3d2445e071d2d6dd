use Rattle.std.proofs.Common.{◌≡◌, ◌≤◌, map, filter_map, take}
use Rattle.tree_fs.specs.Story.{disk_of}
use Rattle.manifest_json.specs.declared.manifest.Row.{Row}
use Rattle.deploy_plan.specs.Told.{row_win, told_win_of, case_seen, told_row}
use Rattle.deploy_plan.proofs.rows.rows_of.Given as goal

abbrev pub invariant-loop-case : goal.invariant-loop-case
invariant-loop-case g l =
    let tree = g.T.Tree in
    record {
      same : tree.tells → tree.story l.tree ≡ tree.story l.fn.tree;
      later : tree.faults l.fn.tree ≤ tree.faults l.tree;
      wins : map row_win l.rows.items ≡ filter_map told_win_of (map case_seen (take l.case-index l.cases));
      so_far : tree.tells → map (λ (r : Row). r) l.rows.items ≡ filter_map (told_row (disk_of (tree.story l.fn.tree))) (map case_seen (take l.case-index l.cases));
    }
