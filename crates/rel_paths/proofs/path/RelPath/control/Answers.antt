use Rattle.rel_paths.proofs.Limits.{IsHeldPath-control}
use Rattle.rel_paths.proofs.path.RelPath.control.Goals as goal

pub invariant_of-result : goal.invariant_of-result
invariant_of-result c = rw (c.from_static.ensures, c.control_text.ensures) (IsHeldPath-control c.args.which)
