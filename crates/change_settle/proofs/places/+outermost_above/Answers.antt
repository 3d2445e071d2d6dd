use Rattle.std.proofs.Common.{map, sym, ap, ◌∙◌, option_map, subst, arith, true≢false}
use Rattle.tree_fs.specs.Spot.{spot_of}
use Rattle.change_settle.specs.Above.{IsOutermostIn}
use Rattle.change_settle.proofs.Above.{shorter, none_root, further, right_here, nowhere, rel_none, rel_some, spot_contains, spot_absent}
use Rattle.change_settle.proofs.places.+outermost_above.Goals as goal

pub outermost_above-requires : goal.outermost_above-requires
outermost_above-requires t c = (
  (let less = shorter (spot_of c.args.place.now) (spot_of c.in-Some.above) (sym (ap (option_map spot_of) c.in-Some.is) ∙ c.in_ok-above.ensures) in omega (arith, less, c.decreases)),
  c.requires,
)

pub returns-then-is_none : goal.returns-then-is_none
returns-then-is_none t c =
    none_root (map spot_of c.args.blocked.now) (spot_of c.args.place.now) (spot_of c.in-Some.above) (sym (ap (option_map spot_of) c.in-Some.is) ∙ c.in_ok-above.ensures)
    (rel_none c.in-Some.above c.is_none.result c.is_none.ensures c.if-is_none.true)

pub returns-in-Some-2 : goal.returns-in-Some-2
returns-in-Some-2 t c =
    further (map spot_of c.args.blocked.now) (spot_of c.args.place.now) (spot_of c.in-Some.above) (spot_of c.in-Some-2.found) (sym (ap (option_map spot_of) c.in-Some.is) ∙ c.in_ok-above.ensures)
    (subst (IsOutermostIn (map spot_of c.args.blocked.now) (spot_of c.in-Some.above)) c.in-Some-2.is c.in_ok-found.ensures)

pub returns-then-has_place : goal.returns-then-has_place
returns-then-has_place t c =
    right_here (map spot_of c.args.blocked.now) (spot_of c.args.place.now) (spot_of c.in-Some.above) (sym (ap (option_map spot_of) c.in-Some.is) ∙ c.in_ok-above.ensures)
    (rel_some c.in-Some.above c.is_none.result c.is_none.ensures c.if-is_none.false)
    (subst (IsOutermostIn (map spot_of c.args.blocked.now) (spot_of c.in-Some.above)) c.in_default-2.is c.in_ok-found.ensures)
    (spot_contains c.args.blocked.now c.in-Some.above (c.has_place.ensures.0 c.if-has_place.true))

pub returns-else-has_place : goal.returns-else-has_place
returns-else-has_place t c =
    nowhere (map spot_of c.args.blocked.now) (spot_of c.args.place.now) (spot_of c.in-Some.above) (sym (ap (option_map spot_of) c.in-Some.is) ∙ c.in_ok-above.ensures)
    (subst (IsOutermostIn (map spot_of c.args.blocked.now) (spot_of c.in-Some.above)) c.in_default-2.is c.in_ok-found.ensures)
    (λ h. true≢false (sym (c.has_place.ensures.1 (spot_absent c.args.blocked.now c.in-Some.above h)) ∙ c.if-has_place.false))
