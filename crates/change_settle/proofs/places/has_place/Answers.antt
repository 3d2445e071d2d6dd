use Rattle.change_settle.proofs.PlaceOrder.{place_searched}
use Rattle.change_settle.proofs.places.has_place.Goals as goal

pub returns : goal.returns
returns c = place_searched c.args.places.now c.requires c.args.place.now c.binary_search.result c.binary_search.ensures.bound c.binary_search.ensures.position c.is_ok.result c.is_ok.ensures.value
