use Rattle.std.proofs.lemmas.Str.Pattern.{ends_text}
use Rattle.rel_paths.specs.Names.{backup_ending}
use Rattle.rel_paths.proofs.names.is_backup_name.Goals as goal

pub returns : goal.returns
returns c = ends_text c.ends_with.result backup_ending c.args.name.now c.ends_with.ensures.cases
