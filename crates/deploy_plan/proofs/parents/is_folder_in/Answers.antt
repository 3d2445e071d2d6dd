use Rattle.std.proofs.Common.{◌∙◌, sym, inl}
use Rattle.tree_fs.specs.Story.{disk_of}
use Rattle.tree_fs.specs.Places.{game_spot}
use Rattle.tree_fs.proofs.Spots.{not_nameless}
use Rattle.deploy_plan.proofs.Parented.{absent_inside}
use Rattle.deploy_plan.proofs.parents.is_folder_in.Goals as goal

pub returns-else-is_open-clause-answer : goal.returns-else-is_open-clause-answer
returns-else-is_open-clause-answer g c told =
    sym (absent_inside (disk_of (g.T.Tree.story c.args.tree.now)) (game_spot c.args.path.now) (g.met.T.Tree.valid c.args.tree.now told) (not_nameless c.args.path.now) (sym (c.requires.told told) ∙ c.if-is_open.false)).1

pub returns-else-is_open-clause-open : goal.returns-else-is_open-clause-open
returns-else-is_open-clause-open g c told =
    inl (absent_inside (disk_of (g.T.Tree.story c.args.tree.now)) (game_spot c.args.path.now) (g.met.T.Tree.valid c.args.tree.now told) (not_nameless c.args.path.now) (sym (c.requires.told told) ∙ c.if-is_open.false)).0
