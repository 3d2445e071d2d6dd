use Rattle.std.proofs.Common.{ap, ◌≤◌, ◌≡◌, refl, sym, inl, ◌∙◌, subst, length, arith}
use Rattle.list_laws.proofs.Containing.{contains_none, in_this, in_all}
use Rattle.list_laws.proofs.Truths.{if_err-from_same}
use Rattle.tree_fs.specs.Spot.{spot_of}
use Rattle.tree_fs.specs.Story.{disk_of}
use Rattle.tree_fs.specs.declared.place.Place.{Place}
use Rattle.tree_fs.proofs.Spots.{same_place}
use Rattle.tree_fs.specs.Disk.{none}
use Rattle.plan_exec.specs.Causes.{StopsAtFirst, clear_obstacle}
use Rattle.tree_fs.specs.Frames.{Touches}
use Rattle.plan_exec.specs.Frames.{Clears}
use Rattle.plan_exec.specs.Steps.{IsStill, IsClearDone}
use Rattle.plan_exec.proofs.Readied.{in_named}
use Rattle.plan_exec.proofs.Looks.{waits_or_free, waits_next, clear_same}
use Rattle.plan_exec.proofs.Obstacles.{stops_here, free_next}
use Rattle.plan_exec.proofs.Clearing.{clears_same, one_clear, clear_next}
use Rattle.plan_exec.proofs.Runs.{runs_here, runs_last}
use Rattle.plan_exec.proofs.clears.clear_all.Goals as goal

pub loop-at-init : goal.loop-at-init
loop-at-init g c = record {
  stops = λ told. runs_here _ _ (clears_same c.args.ready.now _ (g.met.T.Tree.valid _ told));
  done = λ told p never. absurd (contains_none p never);
  free = λ told p never. absurd (contains_none p never);
  each = λ told p listed. inl refl;
  faults = omega arith;
}

pub returns-in_err-take-clause-stops : goal.returns-in_err-take-clause-stops
returns-in_err-take-clause-stops g c = λ told.
    let this = c.at-item.result in
    let at = in_named _ c.args.ready.now.clears (c.as_slice-at-items.ensures ∙ ap (λ p. p.clears) c.plan.ensures.same) c.loop-at.at-index this c.loop-at-test.true c.at-item.is in
    one_clear c.args.ready.now _ _ _ this (in_this _ c.loop-at.at-index this at.0 at.1) (c.loop-at.invariant.stops told) (c.take.ensures.stops told)

pub returns-in_err-take-clause-errors : goal.returns-in_err-take-clause-errors
returns-in_err-take-clause-errors g c = λ told.
    let plan = c.args.ready.now in
    let this = c.at-item.result in
    let at = in_named _ c.args.ready.now.clears (c.as_slice-at-items.ensures ∙ ap (λ p. p.clears) c.plan.ensures.same) c.loop-at.at-index this c.loop-at-test.true c.at-item.is in
    let s = g.T.Tree.story c.args.tree.now in
    let t = g.T.Tree.story c.loop-at.tree in
    let u = g.T.Tree.story c.take.new.tree in
    let listed = in_this c.args.ready.now.clears c.loop-at.at-index this at.0 at.1 in
    let same = clear_same plan (disk_of s) (disk_of t) (runs_last 0 (Clears plan (disk_of s)) s t (c.loop-at.invariant.stops told)) this (c.loop-at.invariant.each told this listed) in
    let e = c.in_err-take.field-0.0 in
    if_err-from_same (StopsAtFirst (clear_obstacle (disk_of s)) (IsClearDone (disk_of u)) (IsStill (disk_of s) (disk_of u)) plan.clears) c.from_residual.result e c.from_residual.ensures.1
    (stops_here (clear_obstacle (disk_of s)) (clear_obstacle (disk_of t)) IsClearDone (IsStill (disk_of s)) plan.clears c.loop-at.at-index this at.0 at.1 same (c.loop-at.invariant.free told) t u (c.loop-at.invariant.done told) (waits_or_free (c.loop-at.invariant.each told this listed)) e (c.in_err-take.ensures.told told) (c.in_err-take.ensures.still told))

pub loop-at-preserved : goal.loop-at-preserved
loop-at-preserved g c =
    let plan = c.args.ready.now in
    let this = c.at-item.result in
    let at = in_named _ c.args.ready.now.clears (c.as_slice-at-items.ensures ∙ ap (λ p. p.clears) c.plan.ensures.same) c.loop-at.at-index this c.loop-at-test.true c.at-item.is in
    let s = g.T.Tree.story c.args.tree.now in
    let t = g.T.Tree.story c.loop-at.tree in
    let u = g.T.Tree.story c.take.new.tree in
    let listed = in_this c.args.ready.now.clears c.loop-at.at-index this at.0 at.1 in
    let before : g.T.Tree.faults c.args.tree.now ≤ g.T.Tree.faults c.loop-at.tree = c.loop-at.invariant.faults in
    let after : g.T.Tree.faults c.loop-at.tree ≤ g.T.Tree.faults c.take.new.tree = c.take.ensures.cause.later in
    record {
      stops = λ told. one_clear plan _ _ _ this listed (c.loop-at.invariant.stops told) (c.take.ensures.stops told);
      done = λ told. clear_next plan.clears c.loop-at.at-index this t u at.0 at.1 (c.take.ensures.stops told) (c.loop-at.invariant.done told) (c.in_ok-take.ensures.done told);
      free = λ told.
          let same = clear_same plan (disk_of s) (disk_of t) (runs_last 0 (Clears plan (disk_of s)) s t (c.loop-at.invariant.stops told)) this (c.loop-at.invariant.each told this listed) in
          free_next (clear_obstacle (disk_of s)) (clear_obstacle (disk_of t)) IsClearDone (IsStill (disk_of s)) plan.clears c.loop-at.at-index this at.0 at.1 same (c.loop-at.invariant.free told) (c.in_ok-take.ensures.free told);
      each = λ told p is.
          let puts = runs_last 0 (Clears plan (disk_of s)) s t (c.loop-at.invariant.stops told) in
          let same = clear_same plan (disk_of s) (disk_of t) puts this (c.loop-at.invariant.each told this listed) in
          waits_next (λ (p : Place). spot_of p) (λ p v. v ≡ none) (clear_obstacle (disk_of s)) (disk_of s) (disk_of t) (disk_of u) this p
          (runs_last 0 (Touches (spot_of this) none (disk_of t)) t u (c.take.ensures.stops told)).now
          (same_place p this)
          (sym same ∙ c.in_ok-take.ensures.free told)
          (c.in_ok-take.ensures.done told)
          (c.loop-at.invariant.each told p is);
      faults = omega arith;
    }

pub returns-clause-done : goal.returns-clause-done
returns-clause-done g c = λ told p listed. c.loop-at.invariant.done told p (in_all c.args.ready.now.clears c.loop-at.at-index p (subst (λ l. length l ≤ c.loop-at.at-index) (c.as_slice-at-items.ensures ∙ ap (λ p. p.clears) c.plan.ensures.same) c.loop-at-test.false) listed)

pub returns-clause-free : goal.returns-clause-free
returns-clause-free g c = λ told p listed. c.loop-at.invariant.free told p (in_all c.args.ready.now.clears c.loop-at.at-index p (subst (λ l. length l ≤ c.loop-at.at-index) (c.as_slice-at-items.ensures ∙ ap (λ p. p.clears) c.plan.ensures.same) c.loop-at-test.false) listed)
