use Rattle.std.proofs.Common.{◌≡◌, IfOk, subst}
use Rattle.tree_fs.specs.Story.{disk_of}
use Rattle.change_detect.specs.Classes.{quick_class_of}
use Rattle.change_detect.specs.Changes.{changes_by}
use Rattle.change_detect.proofs.changes.quick_changes.Goals as goal

pub returns-clause-answer : goal.returns-clause-answer
returns-clause-answer g c = λ told.
    let class = quick_class_of (disk_of (g.T.Tree.story c.args.tree.now)) in
    subst (λ rows. IfOk c.row_changes.result (λ changes. changes.items ≡ changes_by class rows)) c.as_slice.ensures.same (c.row_changes.ensures.answer told)
