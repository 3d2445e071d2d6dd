use Rattle.std.proofs.Common.{sym, subst}
use Rattle.tree_fs.specs.Story.{disk_of}
use Rattle.winner_table.specs.Folders.{IsFolderOf}
use Rattle.plan_lists.proofs.Gathered.{map_itself}
use Rattle.plan_lists.proofs.Leaving.{folder_above_file}
use Rattle.plan_lists.proofs.folders.is_there.Goals as goal

pub returns-then-branch-clause-answer : goal.returns-then-branch-clause-answer
returns-then-branch-clause-answer g c told =
    sym (folder_above_file (disk_of (g.T.Tree.story c.args.tree.now)) (g.met.T.Tree.valid c.args.tree.now told) c.args.emptied.now (c.requires.stood told) c.args.folder.now
    (subst (λ l. IsFolderOf l c.args.folder.now) (map_itself c.args.emptied.now) (c.in_ok-has_below.ensures.0 c.if-branch.true)))
