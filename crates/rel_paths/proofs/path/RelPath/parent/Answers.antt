use Rattle.std.proofs.Common.{sym}
use Rattle.rel_paths.proofs.Parents.{parent_names-cut, parent_names-uncut, IsHeldPath-cut}
use Rattle.rel_paths.proofs.path.RelPath.parent.Goals as goal

pub invariant_of-result : goal.invariant_of-result
invariant_of-result c =
    let cut = c.in-Some.ensures.cases in
    rw c.in_ok-new-in-Some.ensures (IsHeldPath-cut c.text.result.now c.in-Some.above.now cut.0 cut.1 cut.2 cut.3 (rw c.text.ensures.same c.text.ensures.held))

pub returns-in-None : goal.returns-in-None
returns-in-None c = rw (← c.text.ensures.same) (sym (parent_names-uncut c.text.result.now c.in-None.ensures.cases))

pub returns-in_ok-new-in-Some : goal.returns-in_ok-new-in-Some
returns-in_ok-new-in-Some c =
    let cut = c.in-Some.ensures.cases in
    rw (c.in_ok-new-in-Some.ensures, ← c.text.ensures.same) (sym (parent_names-cut c.text.result.now c.in-Some.above.now cut.0 cut.1 cut.2 cut.3))
