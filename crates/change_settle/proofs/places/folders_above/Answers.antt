use Rattle.tree_fs.specs.Spot.{spot_of}
use Rattle.change_settle.proofs.Above.{above_more, above_answer}
use Rattle.change_settle.proofs.Walked.{seen_next}
use Rattle.change_settle.proofs.places.folders_above.Goals as goal

pub loop-place-preserved : goal.loop-place-preserved
loop-place-preserved c =
    let places = c.args.places.now in
    let i = c.loop-place.place-index in
    let place = c.place-item.result in
    let more = above_more _ _ (spot_of place) _ _ (seen_next spot_of places i place c.loop-place-test.true c.place-item.is) (λ s. (c.loop-place.invariant s).0) (λ s. (c.loop-place.invariant s).1) c.in_ok-add_above.ensures in
    λ s. (more.0 s, more.1 s)

pub returns-clause-are : goal.returns-clause-are
returns-clause-are c =
    above_answer c.args.places.now c.loop-place.place-index c.loop-place.found.items c.loop-place-test.false c.loop-place.invariant c.in_order.result c.in_order.ensures.same
