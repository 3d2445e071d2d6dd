use Rattle.std.proofs.Common.{ap, sym, ◌∙◌}
use Rattle.tree_fs.specs.Disk.{kind_of}
use Rattle.tree_fs.specs.Story.{disk_of}
use Rattle.backup_keep.proofs.Numbered.{first_number}
use Rattle.change_settle.proofs.Saving.{absent_room}
use Rattle.change_settle.proofs.aside.look_aside.Goals as goal

pub returns-in-Absent-clause-next : goal.returns-in-Absent-clause-next
returns-in-Absent-clause-next g c told =
    let a = disk_of (g.T.Tree.story c.args.tree.now) in
    first_number a (g.met.T.Tree.valid c.args.tree.now told) (ap (kind_of a) (sym c.in_ok-folder.ensures) ∙ sym (c.in_ok-kind.ensures.answer told) ∙ c.in-Absent.is)

pub returns-in-Absent-clause-room : goal.returns-in-Absent-clause-room
returns-in-Absent-clause-room g c told =
    let a = disk_of (g.T.Tree.story c.args.tree.now) in
    absent_room a (g.met.T.Tree.valid c.args.tree.now told) (ap (kind_of a) (sym c.in_ok-folder.ensures) ∙ sym (c.in_ok-kind.ensures.answer told) ∙ c.in-Absent.is)
