use Rattle.std.proofs.Common.{nat_eq}
use Rattle.std.specs.Ordering.{on}
use Rattle.std.specs.Cmp.Lexicographic.{pointwise}
use Rattle.std.proofs.lemmas.List.Filters.{dedup_is}
use Rattle.tree_fs.specs.Texts.{place_text}
use Rattle.change_settle.proofs.PlaceOrder.{places_rise, places_same}
use Rattle.change_settle.proofs.places.in_order.Goals as goal

pub returns-clause-rise : goal.returns-clause-rise
returns-clause-rise c =
    places_rise c.args.places.items c.sort.new.self.items c.dedup.new.self.items c.in_ok-sort.ensures.permutation
    (dedup_is (on place_text (pointwise nat_eq)) c.sort.new.self.items c.dedup.new.self.items c.dedup.ensures.filtered) c.in_ok-sort.ensures.sorted

pub returns-clause-same : goal.returns-clause-same
returns-clause-same c =
    places_same c.args.places.items c.sort.new.self.items c.dedup.new.self.items c.in_ok-sort.ensures.permutation
    (dedup_is (on place_text (pointwise nat_eq)) c.sort.new.self.items c.dedup.new.self.items c.dedup.ensures.filtered)
