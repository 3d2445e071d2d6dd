use Rattle.std.proofs.Common.{arith}
use Rattle.io_edge.proofs.Pieces.{one_more_piece}
use Rattle.io_edge.proofs.sink.push_all.Goals as goal

pub loop-done-preserved : goal.loop-done-preserved
loop-done-preserved g c =
    (omega (arith, c.in_ok-count.ensures.at_most), λ t. one_more_piece c.loop-done.done c.in_ok-count.count _ _ _ _ (c.loop-done.invariant.1 t) (c.in_ok-count.ensures.appends t), omega (arith, c.push.ensures.cause.later))
