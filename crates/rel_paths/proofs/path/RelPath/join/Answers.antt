use Rattle.rel_paths.proofs.NamesOf.{names_of-joined}
use Rattle.rel_paths.proofs.path.RelPath.join.Goals as goal

pub invariant_of-result : goal.invariant_of-result
invariant_of-result c = rw (c.from_string.ensures, c.in_ok-text.ensures, c.text.ensures.same, c.text-2.ensures.same) c.requires

pub returns : goal.returns
returns c = rw (c.from_string.ensures, c.in_ok-text.ensures, c.text.ensures.same, c.text-2.ensures.same) (names_of-joined c.args.self.now c.args.below.now)
