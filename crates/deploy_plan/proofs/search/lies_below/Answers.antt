use Rattle.std.proofs.Common.{rules, map, true≢false, sym, ◌∙◌}
use Rattle.deploy_plan.proofs.Shorter.{is_above, moves_up, comes_down, at_top, cut_shorter}
use Rattle.deploy_plan.proofs.search.lies_below.Goals as goal

pub loop-above-preserved : goal.loop-above-preserved
loop-above-preserved g c =
    let paths = map g.T.Pathed.path c.args.items.now in
    let cut = c.in-Some.ensures.cases in
    let above = c.in-Some.above.now in
    let one = c.loop-above.invariant.1 in (
      search rules,
      (
        λ is. moves_up paths _ above cut.0 cut.1 cut.2 cut.3 (λ h. true≢false (sym (c.has_text.ensures.1 h) ∙ c.if-has_text.false)) (one.0 is),
        λ is. one.1 (comes_down paths _ above cut.0 cut.1 cut.2 cut.3 is),
      ),
    )

pub loop-above-smaller : goal.loop-above-smaller
loop-above-smaller g c =
    let cut = c.in-Some.ensures.cases in
    cut_shorter _ c.in-Some.above.now cut.0 cut.1 cut.2 cut.3

pub returns-then-has_text : goal.returns-then-has_text
returns-then-has_text g c =
    let paths = map g.T.Pathed.path c.args.items.now in
    let cut = c.in-Some.ensures.cases in
    let above = c.in-Some.above.now in
    (λ t. c.loop-above.invariant.1.1 (is_above paths _ above cut.0 cut.1 cut.2 cut.3 (c.has_text.ensures.0 c.if-has_text.true)), λ is. search rules)

pub returns : goal.returns
returns g c =
    let paths = map g.T.Pathed.path c.args.items.now in
    (λ t. absurd (true≢false (sym t)), λ is. absurd (at_top paths _ c.in_default.ensures.cases (c.loop-above.invariant.1.0 is)))
