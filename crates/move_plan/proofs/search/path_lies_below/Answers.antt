use Rattle.std.proofs.Common.{rules, sym, ◌∙◌, ◌||◌}
use Rattle.std.specs.List.{list_any}
use Rattle.move_plan.specs.Tests.{is_above}
use Rattle.move_plan.proofs.Above.{any-step, any-end, shorter}
use Rattle.move_plan.proofs.search.path_lies_below.Goals as goal

pub loop-above-preserved : goal.loop-above-preserved
loop-above-preserved g c =
    let cut = c.in-Some.ensures.cases in
    let above = c.in-Some.above.now in (
      search rules,
      c.loop-above.invariant.1 ∙ any-step g.T.Keyed.key c.args.items.now c.args.root _ above cut.0 cut.1 cut.2 cut.3
          ∙ (λ i. (sym c.has_at.ensures ∙ c.if-has_at.false) i || list_any (λ x. is_above c.args.root above (g.T.Keyed.key x)) c.args.items.now),
    )

pub loop-above-smaller : goal.loop-above-smaller
loop-above-smaller g c =
    let cut = c.in-Some.ensures.cases in
    shorter g.T.Keyed.key c.args.items.now c.args.root _ c.in-Some.above.now cut.0 cut.1 cut.2 cut.3

pub returns-then-has_at : goal.returns-then-has_at
returns-then-has_at g c =
    let cut = c.in-Some.ensures.cases in
    let above = c.in-Some.above.now in
    sym (c.loop-above.invariant.1 ∙ any-step g.T.Keyed.key c.args.items.now c.args.root _ above cut.0 cut.1 cut.2 cut.3
    ∙ (λ i. (sym c.has_at.ensures ∙ c.if-has_at.true) i || list_any (λ x. is_above c.args.root above (g.T.Keyed.key x)) c.args.items.now))

pub returns : goal.returns
returns g c =
    c.has_at-2.ensures ∙ sym (c.loop-above.invariant.1 ∙ any-end g.T.Keyed.key c.args.items.now c.args.root _ c.in_default.ensures.cases)
