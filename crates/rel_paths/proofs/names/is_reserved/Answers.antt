use Rattle.std.proofs.Common.{◌∙◌}
use Rattle.rel_paths.specs.Names.{is_reserved}
use Rattle.rel_paths.proofs.First.{starts_with-manifest}
use Rattle.rel_paths.proofs.names.is_reserved.Goals as goal

pub returns-else-has_backup : goal.returns-else-has_backup
unfolding is_reserved
returns-else-has_backup c = rw (← c.if-has_backup.ensures) (c.begins_with.ensures ∙ starts_with-manifest c.args.text.now)
