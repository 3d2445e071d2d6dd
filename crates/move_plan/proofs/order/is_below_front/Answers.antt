use Rattle.std.proofs.Common.{◌≡◌, ◌∙◌, true, subst}
use Rattle.move_plan.specs.Tests.{none_or, is_behind}
use Rattle.move_plan.specs.Rising.{front_at}
use Rattle.move_plan.proofs.Turned.{front_tells, front_tells_none, positive, same_map}
use Rattle.move_plan.proofs.order.is_below_front.Goals as goal

pub returns-then-at-eq0 : goal.returns-then-at-eq0
returns-then-at-eq0 c = λ p is.
    subst (λ ks. true ≡ none_or (λ q. is_behind q p) (front_at ks c.args.at)) (same_map c.args.places.now)
    (front_tells_none (λ k. k) is_behind c.args.places.now c.args.at c.requires c.if-at-eq0.true p)

pub returns : goal.returns
returns c = λ p is.
    let front = c.index-places-at-2.result in
    let here = c.index-places-at.result in
    c.comes_before.ensures
    ∙ subst (λ ks. is_behind front here ≡ none_or (λ q. is_behind q p) (front_at ks c.args.at)) (same_map c.args.places.now)
    (front_tells (λ k. k) is_behind c.args.places.now c.args.at c.requires front here (positive c.args.at c.if-at-eq0.false) c.index-places-at-2.is c.index-places-at.is p is)
