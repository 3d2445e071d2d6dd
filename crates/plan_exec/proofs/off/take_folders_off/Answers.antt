use Rattle.std.proofs.Common.{◌+◌, ◌≤◌, length, ap, subst, arith}
use Rattle.list_laws.proofs.Containing.{contains_none, in_this, in_all}
use Rattle.tree_fs.specs.Story.{disk_of}
use Rattle.plan_exec.specs.TakingOff.{TakesOff}
use Rattle.plan_exec.proofs.Runs.{runs_here, runs_more}
use Rattle.move_plan.proofs.Entries.{rule_2}
use Rattle.plan_exec.proofs.Order.{later_apart}
use Rattle.plan_exec.proofs.Items.{in_named}
use Rattle.plan_exec.proofs.TakingOff.{off_same, one_off, off_next}
use Rattle.plan_exec.proofs.off.take_folders_off.Goals as goal

pub loop-at-init : goal.loop-at-init
loop-at-init g c = record {
  stops = λ told. runs_here _ _ (off_same c.args.plan.now.folders_off _ (g.met.T.Tree.valid _ told));
  done = λ told x never. absurd (contains_none never.place never.listed);
  faults = omega arith;
}

pub take_one-requires : goal.take_one-requires
take_one-requires g c =
    let this = c.at-item.result in
    let at = in_named _ c.args.plan.now.folders_off c.as_slice-at-items.ensures c.loop-at.at-index this c.loop-at-test.true c.at-item.is in
    record { below_root = ((rule_2 c.args.plan.now c.requires).folders_off this (in_this _ c.loop-at.at-index this at.0 at.1)).not_root }

pub returns-in_err-take_one-clause-stops : goal.returns-in_err-take_one-clause-stops
returns-in_err-take_one-clause-stops g c = λ told.
    let this = c.at-item.result in
    let at = in_named _ c.args.plan.now.folders_off c.as_slice-at-items.ensures c.loop-at.at-index this c.loop-at-test.true c.at-item.is in
    let lt = at.0 in
    runs_more (c.loop-at.at-index + 1) _ (TakesOff c.args.plan.now.folders_off (disk_of (g.T.Tree.story c.args.tree.now))) _ _ (omega arith)
    (one_off c.loop-at.at-index c.args.plan.now.folders_off _ _ _ this (in_this _ c.loop-at.at-index this at.0 at.1) (c.loop-at.invariant.stops told) (c.take_one.ensures.stops told))

pub loop-at-preserved : goal.loop-at-preserved
loop-at-preserved g c =
    let this = c.at-item.result in
    let off = c.args.plan.now.folders_off in
    let i = c.loop-at.at-index in
    let at = in_named _ c.args.plan.now.folders_off c.as_slice-at-items.ensures c.loop-at.at-index this c.loop-at-test.true c.at-item.is in
    record {
      stops = λ told. one_off i off _ _ _ this (in_this _ c.loop-at.at-index this at.0 at.1) (c.loop-at.invariant.stops told) (c.take_one.ensures.stops told);
      done = λ told. off_next off i this (g.T.Tree.story c.loop-at.tree) (g.T.Tree.story c.take_one.new.tree) at.0 at.1 (later_apart c.args.plan.now c.requires i this at.0 at.1)
          (c.take_one.ensures.stops told) (c.loop-at.invariant.done told) (c.in_ok-take_one.ensures.done told);
      faults = omega (arith, c.in_ok-take_one.ensures.cause.later);
    }

pub returns-clause-done : goal.returns-clause-done
returns-clause-done g c = λ told x has. c.loop-at.invariant.done told x (record {
  place = has.place;
  listed = in_all c.args.plan.now.folders_off c.loop-at.at-index has.place (subst (λ l. length l ≤ c.loop-at.at-index) c.as_slice-at-items.ensures c.loop-at-test.false) has.listed;
  here = has.here;
})

pub returns-clause-stops : goal.returns-clause-stops
returns-clause-stops g c = λ told.
    let le = c.loop-at.auto.at-index-end in
    let same = ap length c.as_slice-at-items.ensures in
    runs_more c.loop-at.at-index _ (TakesOff c.args.plan.now.folders_off (disk_of (g.T.Tree.story c.args.tree.now))) _ _ (omega (arith, le, same)) (c.loop-at.invariant.stops told)
