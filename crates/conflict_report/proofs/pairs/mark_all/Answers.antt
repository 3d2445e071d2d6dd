use Rattle.std.proofs.Common.{get_or}
use Rattle.std.proofs.lemmas.List.{get_or_default}
use Rattle.conflict_report.proofs.Pairing.{among_more}
use Rattle.conflict_report.proofs.pairs.mark_all.Goals as goal

pub loop-node-preserved : goal.loop-node-preserved
loop-node-preserved c =
    let nodes = c.args.nodes.now in
    let i = c.loop-node.node-index in
    let low = c.loop-node-test.true in
    let x = get_or nodes i 0 in
    among_more c.args.shared.now c.loop-node.shared nodes i x low (get_or_default nodes i 0 x low) c.mark_with.new.shared c.loop-node.invariant c.mark_with.ensures
