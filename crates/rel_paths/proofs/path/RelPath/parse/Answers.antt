use Rattle.std.proofs.Common.{sym}
use Rattle.rel_paths.proofs.Limits.{IsHeldPath-user}
use Rattle.rel_paths.proofs.path.RelPath.parse.Goals as goal

pub invariant_of-result : goal.invariant_of-result
invariant_of-result c = rw c.in_ok-new-in-None.ensures (IsHeldPath-user c.args.text.now (sym c.in-None.ensures))
