use Rattle.std.proofs.Common.{◌≡◌, ◌||◌, false, not, get_or, sym, subst, ◌∙◌, arith, below_more}
use Rattle.list_laws.proofs.Lists.{get_or-any}
use Rattle.tree_fs.specs.declared.place.Place.{Place}
use Rattle.move_plan.specs.Tests.{has_key, is_source}
use Rattle.move_plan.proofs.named.are_own.Goals as goal

pub loop-place-preserved : goal.loop-place-preserved
loop-place-preserved c =
    let unused = λ (p : Place). not (is_source c.args.sets.now p || has_key (λ (s : Place × Place). s.1) c.args.saves.now p) in
    let here = c.is_own.ensures c.if-not-is_own.false in
    below_more (λ k. (d : Place) → unused (get_or c.args.clears.now k d) ≡ false) c.loop-place.place-index c.loop-place.invariant
    (λ d. subst (λ p. unused p ≡ false) (c.place-item.is ∙ get_or-any c.args.clears.now c.loop-place.place-index c.place-item.result d c.loop-place-test.true) here)

pub returns : goal.returns
returns c = λ holds k d within. c.loop-place.invariant k (omega (arith, within, c.loop-place-test.false)) d
