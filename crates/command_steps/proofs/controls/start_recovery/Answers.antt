use Rattle.std.proofs.Common.{subst, sym}
use Rattle.tree_fs.specs.Story.{disk_of}
use Rattle.tree_fs.proofs.Moments.{along_unchanged}
use Rattle.intent_journal.specs.Temps.{IsFileOrAbsent, temp_spot}
use Rattle.intent_journal.specs.Sweeps.{Sweeps}
use Rattle.intent_journal.proofs.Sweeping.{sweeps_same}
use Rattle.command_steps.proofs.Orders.{takes_then, takes_err, stops_at}
use Rattle.command_steps.proofs.Guarding.{temps_fine, any_limits}
use Rattle.command_steps.proofs.controls.start_recovery.Goals as goal

pub returns-in_err-check_controls-clause-takes : goal.returns-in_err-check_controls-clause-takes
returns-in_err-check_controls-clause-takes g c = λ told limits. takes_err _ _ c.from_residual.ensures (stops_at _ (c.in_err-check_controls.ensures.takes told limits).stopped)

pub returns-in_err-check_controls-clause-stops : goal.returns-in_err-check_controls-clause-stops
returns-in_err-check_controls-clause-stops g c = λ told.
    let d = disk_of (g.T.Tree.story c.args.tree.now) in
    along_unchanged (Sweeps d) _ _ (c.in_err-check_controls.ensures.same told) (sweeps_same d (g.met.T.Tree.valid _ told))

pub run_barrier-requires : goal.run_barrier-requires
run_barrier-requires g c = λ told which.
    subst (λ s. IsFileOrAbsent (disk_of s) (temp_spot which)) (sym (c.in_ok-check_controls.ensures.same told)) (temps_fine any_limits (g.T.Tree.story c.args.tree.now) (c.in_ok-check_controls.ensures.takes told any_limits).passed.all which)

pub returns-clause-takes : goal.returns-clause-takes
returns-clause-takes g c = λ told limits. takes_then _ (c.in_ok-check_controls.ensures.takes told limits).passed (c.run_barrier.ensures.takes told limits)
