use Rattle.std.proofs.Common.{get_or}
use Rattle.std.proofs.lemmas.List.{get_or_default}
use Rattle.conflict_report.proofs.Growing.{followed_more}
use Rattle.conflict_report.proofs.reach.follow.Goals as goal

pub loop-next-preserved : goal.loop-next-preserved
loop-next-preserved c =
    let edges = c.args.edges.now in
    let i = c.loop-next.next-index in
    let low = c.loop-next-test.true in
    let e = get_or edges i (0, 0) in
    followed_more c.args.reach.now c.loop-next.reach c.add.new.self c.join.new.self c.args.node edges i e low (get_or_default edges i (0, 0) e low)
    c.loop-next.invariant c.add.ensures c.join.ensures
