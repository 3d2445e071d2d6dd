use Rattle.std.proofs.Common.{map, sym, ap, ◌∙◌, option_map, [], ◌∷◌, arith}
use Rattle.std.proofs.lemmas.List.{map-append}
use Rattle.tree_fs.specs.Spot.{spot_of}
use Rattle.change_settle.proofs.Above.{shorter, adds_root, adds_more, rel_none, rel_some}
use Rattle.change_settle.proofs.places.+add_above.Goals as goal

pub add_above-requires : goal.add_above-requires
add_above-requires t c =
    let less = shorter (spot_of c.args.place.now) (spot_of c.in-Some.above) (sym (ap (option_map spot_of) c.in-Some.is) ∙ c.in_ok-above.ensures) in omega (arith, less, c.decreases)

pub returns-then-is_none : goal.returns-then-is_none
returns-then-is_none t c =
    adds_root (spot_of c.args.place.now) (spot_of c.in-Some.above) (map spot_of c.args.found.now.items) (sym (ap (option_map spot_of) c.in-Some.is) ∙ c.in_ok-above.ensures)
    (rel_none c.in-Some.above c.is_none.result c.is_none.ensures c.if-is_none.true)

pub returns : goal.returns
returns t c =
    adds_more (spot_of c.args.place.now) (spot_of c.in-Some.above) (map spot_of c.args.found.now.items) (map spot_of c.add_above.new.found.items) (map spot_of c.push.new.self.items) (sym (ap (option_map spot_of) c.in-Some.is) ∙ c.in_ok-above.ensures)
    (rel_some c.in-Some.above c.is_none.result c.is_none.ensures c.if-is_none.false) c.in_ok-add_above.ensures
    (ap (map spot_of) c.in_ok-push.ensures.items ∙ map-append spot_of c.add_above.new.found.items (c.in-Some.above ∷ []))
