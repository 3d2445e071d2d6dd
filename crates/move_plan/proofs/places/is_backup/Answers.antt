use Rattle.std.proofs.Common.{◌≡◌, ◌&&◌, false, nat_eq}
use Rattle.std.specs.List.{ends_with}
use Rattle.std.proofs.lemmas.Str.Pattern.{ends_text}
use Rattle.rel_paths.specs.Names.{backup_ending}
use Rattle.move_plan.specs.Tests.{is_user_text, front_of}
use Rattle.move_plan.proofs.places.is_backup.Goals as goal

pub returns-in-None : goal.returns-in-None
returns-in-None c =
    let no : false ≡ ends_with nat_eq c.args.path.now backup_ending = ends_text false backup_ending c.args.path.now c.in-None.ensures.cases in
    λ i. no i && is_user_text (front_of c.args.path.now)
