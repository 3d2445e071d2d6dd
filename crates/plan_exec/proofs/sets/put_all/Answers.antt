use Rattle.std.proofs.Common.{ap, ◌≤◌, ◌≡◌, refl, sym, inl, ◌∙◌, subst, length, arith}
use Rattle.list_laws.proofs.Containing.{contains_none, in_this, in_all}
use Rattle.list_laws.proofs.Truths.{if_err-from_same}
use Rattle.tree_fs.specs.Spot.{spot_of}
use Rattle.tree_fs.specs.Story.{disk_of}
use Rattle.move_plan.specs.declared.plan.SetRow.{SetRow}
use Rattle.move_plan.proofs.Ordered.{one_set}
use Rattle.desk_model.specs.Outcome.{file_at}
use Rattle.plan_exec.specs.Causes.{StopsAtFirst, set_obstacle}
use Rattle.tree_fs.specs.Frames.{Touches}
use Rattle.plan_exec.specs.Frames.{Puts}
use Rattle.plan_exec.specs.Steps.{SetWaits, IsSetDone}
use Rattle.plan_exec.proofs.Readied.{in_named, parent_at}
use Rattle.plan_exec.proofs.Looks.{waits_or_free, waits_next, set_same}
use Rattle.plan_exec.proofs.Obstacles.{stops_here, free_next}
use Rattle.plan_exec.proofs.Putting.{puts_same, one_put, put_next, source_kept}
use Rattle.plan_exec.proofs.Rules.{set_apart}
use Rattle.plan_exec.proofs.Runs.{runs_here, runs_last}
use Rattle.plan_exec.proofs.sets.put_all.Goals as goal

pub loop-i-init : goal.loop-i-init
loop-i-init g c = record {
  stops = λ told. runs_here _ _ (puts_same c.args.ready.now _ (g.met.T.Tree.valid _ told));
  done = λ told row never. absurd (contains_none row never);
  free = λ told row never. absurd (contains_none row never);
  each = λ told row listed. inl refl;
  faults = omega arith;
}

pub put_one-requires-clause-apart : goal.put_one-requires-clause-apart
put_one-requires-clause-apart g c =
    let this = c.index-rows-i.result in
    let at = in_named _ c.args.ready.now.sets (c.as_slice-rows.ensures ∙ ap (λ p. p.sets) c.plan.ensures.same) c.loop-i.i this c.loop-i-test.true c.index-rows-i.is in
    set_apart c.args.ready.now c.plan.ensures.rules this (in_this _ c.loop-i.i this at.0 at.1)

pub returns-in_err-put_one-clause-stops : goal.returns-in_err-put_one-clause-stops
returns-in_err-put_one-clause-stops g c = λ told.
    let this = c.index-rows-i.result in
    let at = in_named _ c.args.ready.now.sets (c.as_slice-rows.ensures ∙ ap (λ p. p.sets) c.plan.ensures.same) c.loop-i.i this c.loop-i-test.true c.index-rows-i.is in
    one_put c.args.ready.now c.plan.ensures.rules _ _ _ this (in_this _ c.loop-i.i this at.0 at.1) (c.loop-i.invariant.stops told) (c.put_one.ensures.stops told)

pub returns-in_err-put_one-clause-errors : goal.returns-in_err-put_one-clause-errors
returns-in_err-put_one-clause-errors g c = λ told.
    let plan = c.args.ready.now in
    let this = c.index-rows-i.result in
    let at = in_named _ c.args.ready.now.sets (c.as_slice-rows.ensures ∙ ap (λ p. p.sets) c.plan.ensures.same) c.loop-i.i this c.loop-i-test.true c.index-rows-i.is in
    let s = g.T.Tree.story c.args.tree.now in
    let t = g.T.Tree.story c.loop-i.tree in
    let u = g.T.Tree.story c.put_one.new.tree in
    let listed = in_this c.args.ready.now.sets c.loop-i.i this at.0 at.1 in
    let same = set_same plan c.plan.ensures.rules (disk_of s) (disk_of t) (runs_last 0 (Puts plan (disk_of s)) s t (c.loop-i.invariant.stops told)) this listed (c.loop-i.invariant.each told this listed) in
    let e = c.in_err-put_one.field-0.0 in
    if_err-from_same (StopsAtFirst (set_obstacle (disk_of s)) (IsSetDone (disk_of s) (disk_of u)) (SetWaits (disk_of s) (disk_of u)) plan.sets) c.from_residual.result e c.from_residual.ensures.1
    (stops_here (set_obstacle (disk_of s)) (set_obstacle (disk_of t)) (IsSetDone (disk_of s)) (SetWaits (disk_of s)) plan.sets c.loop-i.i this at.0 at.1 same (c.loop-i.invariant.free told) t u (c.loop-i.invariant.done told) (waits_or_free (c.loop-i.invariant.each told this listed)) e (c.in_err-put_one.ensures.told told) (c.in_err-put_one.ensures.still told))

pub loop-i-preserved : goal.loop-i-preserved
loop-i-preserved g c =
    let plan = c.args.ready.now in
    let this = c.index-rows-i.result in
    let at = in_named _ c.args.ready.now.sets (c.as_slice-rows.ensures ∙ ap (λ p. p.sets) c.plan.ensures.same) c.loop-i.i this c.loop-i-test.true c.index-rows-i.is in
    let s = g.T.Tree.story c.args.tree.now in
    let t = g.T.Tree.story c.loop-i.tree in
    let u = g.T.Tree.story c.put_one.new.tree in
    let listed = in_this c.args.ready.now.sets c.loop-i.i this at.0 at.1 in
    let before : g.T.Tree.faults c.args.tree.now ≤ g.T.Tree.faults c.loop-i.tree = c.loop-i.invariant.faults in
    let after : g.T.Tree.faults c.loop-i.tree ≤ g.T.Tree.faults c.put_one.new.tree = c.put_one.ensures.cause.later in
    record {
      stops = λ told. one_put plan c.plan.ensures.rules _ _ _ this listed (c.loop-i.invariant.stops told) (c.put_one.ensures.stops told);
      done = λ told. put_next plan c.plan.ensures.rules c.loop-i.i this s t u at.0 at.1 (c.loop-i.invariant.stops told) (c.put_one.ensures.stops told) (c.loop-i.invariant.done told) (c.in_ok-put_one.ensures.done told);
      free = λ told.
          let same = set_same plan c.plan.ensures.rules (disk_of s) (disk_of t) (runs_last 0 (Puts plan (disk_of s)) s t (c.loop-i.invariant.stops told)) this listed (c.loop-i.invariant.each told this listed) in
          free_next (set_obstacle (disk_of s)) (set_obstacle (disk_of t)) (IsSetDone (disk_of s)) (SetWaits (disk_of s)) plan.sets c.loop-i.i this at.0 at.1 same (c.loop-i.invariant.free told) (c.in_ok-put_one.ensures.free told);
      each = λ told row is.
          let puts = runs_last 0 (Puts plan (disk_of s)) s t (c.loop-i.invariant.stops told) in
          let same = set_same plan c.plan.ensures.rules (disk_of s) (disk_of t) puts this listed (c.loop-i.invariant.each told this listed) in
          waits_next (λ (r : SetRow). spot_of r.to) (λ (r : SetRow) v. v ≡ file_at (disk_of s).now r.from) (set_obstacle (disk_of s)) (disk_of s) (disk_of t) (disk_of u) this row
          (runs_last 0 (Touches (spot_of this.to) (file_at (disk_of t).now this.from) (disk_of t)) t u (c.put_one.ensures.stops told)).now
          (one_set plan c.plan.ensures.rules row this is listed)
          (sym same ∙ c.in_ok-put_one.ensures.free told)
          (c.in_ok-put_one.ensures.done told ∙ source_kept plan c.plan.ensures.rules (disk_of s) (disk_of t) puts.now this listed)
          (c.loop-i.invariant.each told row is);
      faults = omega arith;
    }

pub returns-clause-done : goal.returns-clause-done
returns-clause-done g c = λ told row listed. c.loop-i.invariant.done told row (in_all c.args.ready.now.sets c.loop-i.i row (subst (λ l. length l ≤ c.loop-i.i) (c.as_slice-rows.ensures ∙ ap (λ p. p.sets) c.plan.ensures.same) c.loop-i-test.false) listed)

pub returns-clause-free : goal.returns-clause-free
returns-clause-free g c = λ told row listed. c.loop-i.invariant.free told row (in_all c.args.ready.now.sets c.loop-i.i row (subst (λ l. length l ≤ c.loop-i.i) (c.as_slice-rows.ensures ∙ ap (λ p. p.sets) c.plan.ensures.same) c.loop-i-test.false) listed)

pub put_one-requires-clause-above : goal.put_one-requires-clause-above
put_one-requires-clause-above g c =
    let this = c.index-rows-i.result in
    let at = in_named _ c.args.ready.now.sets (c.as_slice-rows.ensures ∙ ap (λ p. p.sets) c.plan.ensures.same) c.loop-i.i this c.loop-i-test.true c.index-rows-i.is in
    parent_at (λ (r : SetRow). r.to) c.args.ready.now.sets _ c.set_parents-above.ensures c.loop-i.i this c.index-above-i.result at.0 at.1 c.index-above-i.is
