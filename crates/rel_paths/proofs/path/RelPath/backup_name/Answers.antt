use Rattle.rel_paths.proofs.Backups.{names_of-backup, IsHeldPath-backup}
use Rattle.rel_paths.proofs.path.RelPath.backup_name.Goals as goal

pub invariant_of-result : goal.invariant_of-result
invariant_of-result c = rw (c.from_string.ensures, c.in_ok-text.ensures, c.text.ensures.same) (IsHeldPath-backup c.args.self.now c.requires)

pub returns : goal.returns
returns c = rw (c.from_string.ensures, c.in_ok-text.ensures, c.text.ensures.same) (names_of-backup c.args.self.now)
