use Rattle.std.proofs.Common.{◌≡◌, sym, ap, ◌∙◌}
use Rattle.tree_fs.specs.Story.{disk_of}
use Rattle.tree_fs.specs.Disk.{kind_of}
use Rattle.backup_keep.proofs.Numbered.{first_number}
use Rattle.backup_keep.proofs.next.next_aside.Goals as goal

pub returns-in-Absent-clause-next : goal.returns-in-Absent-clause-next
returns-in-Absent-clause-next g c told =
    let disk = disk_of (g.T.Tree.story c.args.tree.now) in
    first_number disk (g.met.T.Tree.valid c.args.tree.now told)
    (ap (kind_of disk) (sym c.in_ok-folder.ensures) ∙ sym (c.in_ok-kind.ensures.answer told) ∙ c.in-Absent.is)
