use Rattle.std.proofs.Common.{◌-◌, false, not, ◌||◌, drop, refl, sym, subst, arith}
use Rattle.std.specs.Ordering.{on, nat_cmp}
use Rattle.std.specs.Cmp.Lexicographic.{slice_cmp}
use Rattle.list_laws.proofs.Sorted.{sorted_take, sorted_drop}
use Rattle.tree_fs.specs.declared.place.Place.{Place}
use Rattle.tree_fs.specs.Texts.{place_text}
use Rattle.move_plan.specs.Tests.{has_key, is_source}
use Rattle.move_plan.specs.Rising.{AreRising}
use Rattle.move_plan.proofs.Searching.{position-nowhere}
use Rattle.move_plan.proofs.Earlier.{part_length, part_found, part_none}
use Rattle.move_plan.proofs.marks.first_unused.Goals as goal

pub loop-start-init : goal.loop-start-init
loop-start-init c = (omega arith, λ k d h. (let wrong : ⊥ = omega arith in absurd wrong))

pub first_unused_of-requires-clause-most : goal.first_unused_of-requires-clause-most
first_unused_of-requires-clause-most c =
    let end = c.part_end-end.ensures in
    let length_is = part_length (λ (p : Place). false) c.args.clears.now c.part_of.result.now c.loop-start.start c.part_end-end.result c.part_of.ensures end.above end.within (λ k d h. refl) in
    omega (arith, length_is, end.most, end.above)

pub first_unused_of-requires-clause-clears : goal.first_unused_of-requires-clause-clears
first_unused_of-requires-clause-clears c =
    let cmp = on place_text (slice_cmp nat_cmp) in
    subst AreRising (sym c.part_of.ensures) (sorted_take cmp (c.part_end-end.result - c.loop-start.start) (drop c.loop-start.start c.args.clears.now) (sorted_drop cmp c.loop-start.start c.args.clears.now c.requires.clears))

pub loop-start-preserved : goal.loop-start-preserved
loop-start-preserved c =
    let end = c.part_end-end.ensures in
    let unused = λ (p : Place). not (is_source c.args.sets.now p || has_key (λ (s : Place × Place). s.1) c.args.saves.now p) in
    (end.within, part_none unused c.args.clears.now c.part_of.result.now c.loop-start.start c.part_end-end.result c.part_of.ensures end.above end.within c.loop-start.invariant.1 c.in_default.ensures)

pub returns-in-Some : goal.returns-in-Some
returns-in-Some c =
    let end = c.part_end-end.ensures in
    let unused = λ (p : Place). not (is_source c.args.sets.now p || has_key (λ (s : Place × Place). s.1) c.args.saves.now p) in
    part_found unused c.args.clears.now c.part_of.result.now c.loop-start.start c.part_end-end.result c.part_of.ensures end.above end.within c.loop-start.invariant.1 c.in-Some.at c.in-Some.ensures

pub returns : goal.returns
returns c =
    let unused = λ (p : Place). not (is_source c.args.sets.now p || has_key (λ (s : Place × Place). s.1) c.args.saves.now p) in
    sym (position-nowhere unused c.args.clears.now (λ k d h. c.loop-start.invariant.1 k d (omega (arith, h, c.loop-start-test.false))))
