use Rattle.std.proofs.Common.{rules, ◌≡◌, arith, inl, inr}
use Rattle.std.specs.Ordering.{nat_cmp}
use Rattle.std.specs.Cmp.Lexicographic.{slice_cmp}
use Rattle.std.specs.declared.cmp.Ordering.TheVariants.{Less, Equal, Greater}
use Rattle.deploy_plan.proofs.WalkCode.{pushed, row_first, both_first, win_first, at_end}
use Rattle.deploy_plan.proofs.steps.steps.Goals.{then-loop-i-test+else-j-wins, else-loop-i-test}
use Rattle.deploy_plan.proofs.steps.steps.Goals as goal

pub loop-i-preserved-in-Less : goal.loop-i-preserved-in-Less
loop-i-preserved-in-Less c =
    let e : slice_cmp nat_cmp c.index-rows-i.result.path c.index-wins-j.result.path.now ≡ Less = search rules in
    record {
      rows = omega arith;
      wins = omega arith;
      so_far = pushed _ _ _ _ _ _ c.in_ok-push-in-Less.ensures.items c.loop-i.invariant.so_far
          (row_first c.args.rows.now c.args.wins.now c.loop-i.i c.loop-i.j c.index-rows-i.result c.index-wins-j.result c.index-rows-i.is c.index-wins-j.is c.loop-i-test.true c.if-j-wins.true e);
    }

pub loop-i-preserved-in-Equal : goal.loop-i-preserved-in-Equal
loop-i-preserved-in-Equal c =
    let e : slice_cmp nat_cmp c.index-rows-i.result.path c.index-wins-j.result.path.now ≡ Equal = search rules in
    record {
      rows = omega arith;
      wins = omega arith;
      so_far = pushed _ _ _ _ _ _ c.in_ok-push-in-Equal.ensures.items c.loop-i.invariant.so_far
          (both_first c.args.rows.now c.args.wins.now c.loop-i.i c.loop-i.j c.index-rows-i.result c.index-wins-j.result c.index-rows-i.is c.index-wins-j.is c.loop-i-test.true c.if-j-wins.true e);
    }

pub loop-i-preserved : goal.loop-i-preserved
loop-i-preserved c =
    let e : slice_cmp nat_cmp c.index-rows-i.result.path c.index-wins-j.result.path.now ≡ Greater = search rules in
    record {
      rows = omega arith;
      wins = omega arith;
      so_far = pushed _ _ _ _ _ _ c.in_ok-push-in-Greater.ensures.items c.loop-i.invariant.so_far
          (win_first c.args.rows.now c.args.wins.now c.loop-i.i c.loop-i.j c.index-rows-i.result c.index-wins-j.result c.index-rows-i.is c.index-wins-j.is c.loop-i-test.true c.if-j-wins.true e);
    }

pub loop-row-init : goal.loop-row-init
loop-row-init c = record {
  within = c.loop-i.invariant.wins;
  so_far = at_end c.args.rows.now c.args.wins.now c.loop-i.i c.loop-i.j _ _
      (elim c.loop-i-test.branch [ then-loop-i-test+else-j-wins w ↦ inr w.if-j-wins.false | else-loop-i-test w ↦ inl w.loop-i-test.false ])
      c.loop-i.invariant.so_far;
}
