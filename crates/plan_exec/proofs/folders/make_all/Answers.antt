use Rattle.std.proofs.Common.{arith}
use Rattle.list_laws.proofs.Containing.{contains_none, in_this, in_all}
use Rattle.list_laws.proofs.Truths.{if_err-from_same}
use Rattle.plan_exec.proofs.Runs.{runs_here}
use Rattle.move_plan.specs.Places.{Has}
use Rattle.plan_exec.specs.Making.{CantMakeOne}
use Rattle.plan_exec.proofs.Making.{makes_same, one_made, made_next, parent_at, stopped_at}
use Rattle.plan_exec.proofs.folders.make_all.Goals as goal

pub loop-i-init : goal.loop-i-init
loop-i-init g c = record {
  stops = λ told. runs_here _ _ (makes_same (Has c.args.folders.now) _ (g.met.T.Tree.valid _ told));
  done = λ told x never. absurd (contains_none never.place never.listed);
  faults = omega arith;
}

pub returns-in_err-make_one-clause-stops : goal.returns-in_err-make_one-clause-stops
returns-in_err-make_one-clause-stops g c = λ told.
    let this = c.index-folders-i.result in
    one_made c.args.folders.now _ _ _ this (in_this c.args.folders.now c.loop-i.i this c.loop-i-test.true c.index-folders-i.is) (c.loop-i.invariant.stops told) (c.make_one.ensures.stops told)

pub returns-in_err-make_one-clause-err : goal.returns-in_err-make_one-clause-err
returns-in_err-make_one-clause-err g c = λ told.
    let this = c.index-folders-i.result in
    let error = c.in_err-make_one.field-0.0 in
    if_err-from_same (CantMakeOne c.args.folders.now _) c.from_residual.result error c.from_residual.ensures.1
    (stopped_at c.args.folders.now c.loop-i.i this _ _ error c.loop-i-test.true c.index-folders-i.is (c.loop-i.invariant.stops told) (c.loop-i.invariant.done told) (c.in_err-make_one.ensures.told told))

pub loop-i-preserved : goal.loop-i-preserved
loop-i-preserved g c =
    let this = c.index-folders-i.result in
    let lt = c.loop-i-test.true in
    let at = c.index-folders-i.is in
    record {
      stops = λ told. one_made c.args.folders.now _ _ _ this (in_this c.args.folders.now c.loop-i.i this lt at) (c.loop-i.invariant.stops told) (c.make_one.ensures.stops told);
      done = λ told. made_next c.args.folders.now c.loop-i.i this (g.T.Tree.story c.loop-i.tree) (g.T.Tree.story c.make_one.new.tree) lt at (c.loop-i.invariant.done told) (c.make_one.ensures.stops told) (c.in_ok-make_one.ensures.done told);
      faults = omega (arith, c.in_ok-make_one.ensures.cause.later);
    }

pub returns-clause-done : goal.returns-clause-done
returns-clause-done g c = λ told x has. c.loop-i.invariant.done told x (record { place = has.place; listed = in_all c.args.folders.now c.loop-i.i has.place c.loop-i-test.false has.listed; here = has.here })

pub make_one-requires : goal.make_one-requires
make_one-requires g c = record { above = parent_at c.args.folders.now c.args.above.now c.loop-i.i c.index-folders-i.result c.index-above-i.result c.requires c.loop-i-test.true c.index-folders-i.is c.index-above-i.is }
