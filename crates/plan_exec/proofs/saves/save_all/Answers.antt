use Rattle.std.proofs.Common.{ap, ◌≤◌, ◌≡◌, ℕ, refl, sym, inl, ◌∙◌, subst, length, arith}
use Rattle.list_laws.proofs.Containing.{contains_none, in_this, in_all}
use Rattle.list_laws.proofs.Truths.{if_err-from_same}
use Rattle.tree_fs.specs.Spot.{spot_of}
use Rattle.tree_fs.specs.Story.{disk_of}
use Rattle.tree_fs.specs.declared.place.Place.{Place}
use Rattle.move_plan.proofs.Ordered.{one_save}
use Rattle.tree_fs.specs.Disk.{file}
use Rattle.plan_exec.specs.Causes.{StopsAtFirst, save_obstacle}
use Rattle.desk_model.specs.Desk.{file_or_none}
use Rattle.plan_exec.specs.Frames.{Brings, Saves}
use Rattle.plan_exec.specs.Steps.{SaveWaits, IsSaveDone}
use Rattle.plan_exec.proofs.Readied.{in_named, parent_at}
use Rattle.plan_exec.proofs.Looks.{waits_or_free, waits_next, save_same}
use Rattle.plan_exec.proofs.Obstacles.{stops_here, free_next}
use Rattle.plan_exec.proofs.Saving.{saves_same, one_save_more, save_next}
use Rattle.plan_exec.proofs.Runs.{runs_here, runs_last}
use Rattle.plan_exec.proofs.saves.save_all.Goals as goal

pub loop-i-init : goal.loop-i-init
loop-i-init g c = record {
  stops = λ told. runs_here _ _ (saves_same c.args.ready.now _ (g.met.T.Tree.valid _ told));
  done = λ told save never. absurd (contains_none save never);
  free = λ told save never. absurd (contains_none save never);
  each = λ told save listed. inl refl;
  faults = omega arith;
}

pub returns-in_err-save_one-clause-stops : goal.returns-in_err-save_one-clause-stops
returns-in_err-save_one-clause-stops g c = λ told.
    let this = c.index-saves-i.result in
    let at = in_named _ c.args.ready.now.saves (c.as_slice-saves.ensures ∙ ap (λ p. p.saves) c.plan.ensures.same) c.loop-i.i this c.loop-i-test.true c.index-saves-i.is in
    one_save_more c.args.ready.now c.plan.ensures.rules _ _ _ this (in_this _ c.loop-i.i this at.0 at.1) (c.loop-i.invariant.stops told) (c.save_one.ensures.stops told)

pub returns-in_err-save_one-clause-errors : goal.returns-in_err-save_one-clause-errors
returns-in_err-save_one-clause-errors g c = λ told.
    let plan = c.args.ready.now in
    let this = c.index-saves-i.result in
    let at = in_named _ c.args.ready.now.saves (c.as_slice-saves.ensures ∙ ap (λ p. p.saves) c.plan.ensures.same) c.loop-i.i this c.loop-i-test.true c.index-saves-i.is in
    let s = g.T.Tree.story c.args.tree.now in
    let t = g.T.Tree.story c.loop-i.tree in
    let u = g.T.Tree.story c.save_one.new.tree in
    let listed = in_this c.args.ready.now.saves c.loop-i.i this at.0 at.1 in
    let same = save_same plan c.plan.ensures.rules (disk_of s) (disk_of t) (runs_last 0 (Saves plan (disk_of s)) s t (c.loop-i.invariant.stops told)) this listed (c.loop-i.invariant.each told this listed) in
    let e = c.in_err-save_one.field-0.0 in
    if_err-from_same (StopsAtFirst (save_obstacle (disk_of s)) (IsSaveDone (disk_of u)) (SaveWaits (disk_of s) (disk_of u)) plan.saves) c.from_residual.result e c.from_residual.ensures.1
    (stops_here (save_obstacle (disk_of s)) (save_obstacle (disk_of t)) IsSaveDone (SaveWaits (disk_of s)) plan.saves c.loop-i.i this at.0 at.1 same (c.loop-i.invariant.free told) t u (c.loop-i.invariant.done told) (waits_or_free (c.loop-i.invariant.each told this listed)) e (c.in_err-save_one.ensures.told told) (c.in_err-save_one.ensures.still told))

pub loop-i-preserved : goal.loop-i-preserved
loop-i-preserved g c =
    let plan = c.args.ready.now in
    let this = c.index-saves-i.result in
    let at = in_named _ c.args.ready.now.saves (c.as_slice-saves.ensures ∙ ap (λ p. p.saves) c.plan.ensures.same) c.loop-i.i this c.loop-i-test.true c.index-saves-i.is in
    let s = g.T.Tree.story c.args.tree.now in
    let t = g.T.Tree.story c.loop-i.tree in
    let u = g.T.Tree.story c.save_one.new.tree in
    let listed = in_this c.args.ready.now.saves c.loop-i.i this at.0 at.1 in
    let before : g.T.Tree.faults c.args.tree.now ≤ g.T.Tree.faults c.loop-i.tree = c.loop-i.invariant.faults in
    let after : g.T.Tree.faults c.loop-i.tree ≤ g.T.Tree.faults c.save_one.new.tree = c.save_one.ensures.cause.later in
    record {
      stops = λ told. one_save_more plan c.plan.ensures.rules _ _ _ this listed (c.loop-i.invariant.stops told) (c.save_one.ensures.stops told);
      done = λ told. save_next plan c.plan.ensures.rules c.loop-i.i this t u at.0 at.1 (c.save_one.ensures.stops told) (c.loop-i.invariant.done told) (c.in_ok-save_one.ensures.done told);
      free = λ told.
          let same = save_same plan c.plan.ensures.rules (disk_of s) (disk_of t) (runs_last 0 (Saves plan (disk_of s)) s t (c.loop-i.invariant.stops told)) this listed (c.loop-i.invariant.each told this listed) in
          free_next (save_obstacle (disk_of s)) (save_obstacle (disk_of t)) IsSaveDone (SaveWaits (disk_of s)) plan.saves c.loop-i.i this at.0 at.1 same (c.loop-i.invariant.free told) (c.in_ok-save_one.ensures.free told);
      each = λ told save is.
          let puts = runs_last 0 (Saves plan (disk_of s)) s t (c.loop-i.invariant.stops told) in
          let same = save_same plan c.plan.ensures.rules (disk_of s) (disk_of t) puts this listed (c.loop-i.invariant.each told this listed) in
          waits_next (λ (p : Place × Place). spot_of p.1) (λ p v. (n : ℕ) × (v ≡ file n)) (save_obstacle (disk_of s)) (disk_of s) (disk_of t) (disk_of u) this save
          (runs_last 0 (Brings (spot_of this.1) (file_or_none ((disk_of t).now (spot_of this.0))) (disk_of t)) t u (c.save_one.ensures.stops told)).touches.now
          (one_save plan c.plan.ensures.rules save this is listed)
          (sym same ∙ c.in_ok-save_one.ensures.free told)
          (c.in_ok-save_one.ensures.done told)
          (c.loop-i.invariant.each told save is);
      faults = omega arith;
    }

pub returns-clause-done : goal.returns-clause-done
returns-clause-done g c = λ told save listed. c.loop-i.invariant.done told save (in_all c.args.ready.now.saves c.loop-i.i save (subst (λ l. length l ≤ c.loop-i.i) (c.as_slice-saves.ensures ∙ ap (λ p. p.saves) c.plan.ensures.same) c.loop-i-test.false) listed)

pub returns-clause-free : goal.returns-clause-free
returns-clause-free g c = λ told save listed. c.loop-i.invariant.free told save (in_all c.args.ready.now.saves c.loop-i.i save (subst (λ l. length l ≤ c.loop-i.i) (c.as_slice-saves.ensures ∙ ap (λ p. p.saves) c.plan.ensures.same) c.loop-i-test.false) listed)

pub save_one-requires : goal.save_one-requires
save_one-requires g c =
    let this = c.index-saves-i.result in
    let at = in_named _ c.args.ready.now.saves (c.as_slice-saves.ensures ∙ ap (λ p. p.saves) c.plan.ensures.same) c.loop-i.i this c.loop-i-test.true c.index-saves-i.is in
    record { above = parent_at (λ (p : Place × Place). p.1) c.args.ready.now.saves _ c.save_parents-above.ensures c.loop-i.i this c.index-above-i.result at.0 at.1 c.index-above-i.is }
