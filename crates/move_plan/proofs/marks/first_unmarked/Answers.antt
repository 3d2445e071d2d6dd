use Rattle.std.proofs.Common.{◌≡◌, ◌||◌, true, false, get_or, refl, sym, ◌∙◌, arith, below_more}
use Rattle.tree_fs.specs.declared.place.Place.{Place}
use Rattle.move_plan.specs.Tests.{has_key}
use Rattle.move_plan.proofs.Marked.{unused_here, all_used, used_at}
use Rattle.move_plan.proofs.marks.first_unmarked.Goals as goal

pub returns-then-not-is_used : goal.returns-then-not-is_used
returns-then-not-is_used c = λ used same.
    unused_here used (has_key (λ (s : Place × Place). s.1) c.args.saves.now) c.args.clears.now c.args.marks.now same
    c.loop-at.at c.index-clears-at.result _ c.loop-at-test.true c.index-clears-at.is refl (sym c.is_used.ensures ∙ c.if-not-is_used.true) (λ k d h. c.loop-at.invariant k h d)

pub loop-at-preserved : goal.loop-at-preserved
loop-at-preserved c =
    let there = has_key (λ (s : Place × Place). s.1) c.args.saves.now in
    below_more (λ k. (d : Place) → (get_or c.args.marks.now k false || there (get_or c.args.clears.now k d)) ≡ true) c.loop-at.at c.loop-at.invariant
    (used_at there c.args.clears.now c.args.marks.now c.loop-at.at c.index-clears-at.result c.loop-at-test.true c.index-clears-at.is (sym c.is_used.ensures ∙ c.if-not-is_used.false))

pub returns : goal.returns
returns c = λ used same.
    all_used used (has_key (λ (s : Place × Place). s.1) c.args.saves.now) c.args.clears.now c.args.marks.now same
    (λ k d within. c.loop-at.invariant k (omega (arith, within, c.loop-at-test.false)) d)
