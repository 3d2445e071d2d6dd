use Rattle.std.proofs.Common.{length, subst, arith}
use Rattle.list_laws.proofs.Truths.{if_err-from_same}
use Rattle.plan_exec.specs.Causes.{IsFault}
use Rattle.intent_journal.specs.Counts.{SyncsAtMost}
use Rattle.plan_exec.proofs.Obstacles.{never_first}
use Rattle.intent_journal.proofs.Counting.{syncs_more}
use Rattle.plan_exec.proofs.Readied.{folders_same}
use Rattle.intent_journal.specs.Ready.{saved_places}
use Rattle.plan_exec.proofs.Saving.{then_synced}
use Rattle.plan_exec.proofs.SavesStand.{saves_lead, saves_done, saves_free}
use Rattle.plan_exec.proofs.SavesMids.{saves_mid}
use Rattle.plan_exec.proofs.saves.do_saves.Goals as goal

pub returns-in_err-save_all-clause-stops : goal.returns-in_err-save_all-clause-stops
returns-in_err-save_all-clause-stops g c = λ told start. saves_lead _ _ _ start (c.save_all.ensures.stops told).along

pub returns-in_err-save_all-clause-only : goal.returns-in_err-save_all-clause-only
returns-in_err-save_all-clause-only g c = λ told. (c.save_all.ensures.stops told).along

pub returns-in_err-save_all-clause-mid : goal.returns-in_err-save_all-clause-mid
returns-in_err-save_all-clause-mid g c = λ told a sound mid. saves_mid _ c.save_all.ensures.rules a _ _ sound mid (c.save_all.ensures.stops told).along

pub returns-in_err-save_all-clause-syncs : goal.returns-in_err-save_all-clause-syncs
returns-in_err-save_all-clause-syncs g c = λ told folders are. syncs_more 0 _ _ _ (omega arith) (c.save_all.ensures.stops told).syncs

pub returns-in_err-save_all-clause-never : goal.returns-in_err-save_all-clause-never
returns-in_err-save_all-clause-never g c = λ told start made.
    let e = c.in_err-save_all.field-0.0 in
    if_err-from_same IsFault c.from_residual.result e c.from_residual.ensures.1
    (never_first _ _ _ _ (saves_free _ _ start made) e (c.in_err-save_all.ensures.errors told))

pub returns-in_err-sync_all-clause-stops : goal.returns-in_err-sync_all-clause-stops
returns-in_err-sync_all-clause-stops g c = λ told start. saves_lead _ _ _ start (then_synced _ _ _ _ _ (c.save_all.ensures.stops told) (c.sync_all.ensures.stops told)).along

pub returns-in_err-sync_all-clause-only : goal.returns-in_err-sync_all-clause-only
returns-in_err-sync_all-clause-only g c = λ told. (then_synced _ _ _ _ _ (c.save_all.ensures.stops told) (c.sync_all.ensures.stops told)).along

pub returns-in_err-sync_all-clause-mid : goal.returns-in_err-sync_all-clause-mid
returns-in_err-sync_all-clause-mid g c = λ told a sound mid. saves_mid _ c.save_all.ensures.rules a _ _ sound mid (then_synced _ _ _ _ _ (c.save_all.ensures.stops told) (c.sync_all.ensures.stops told)).along

pub returns-in_err-sync_all-clause-syncs : goal.returns-in_err-sync_all-clause-syncs
returns-in_err-sync_all-clause-syncs g c = λ told folders are. subst (λ l. SyncsAtMost (length l) (g.T.Tree.story c.args.tree.now) (g.T.Tree.story c.sync_all.new.tree)) (folders_same (saved_places c.args.ready.now) _ folders c.save_folders.ensures are) (then_synced _ _ _ _ _ (c.save_all.ensures.stops told) (c.sync_all.ensures.stops told)).syncs

pub returns-clause-stops : goal.returns-clause-stops
returns-clause-stops g c = λ told start. saves_lead _ _ _ start (then_synced _ _ _ _ _ (c.save_all.ensures.stops told) (c.sync_all.ensures.stops told)).along

pub returns-clause-only : goal.returns-clause-only
returns-clause-only g c = λ told. (then_synced _ _ _ _ _ (c.save_all.ensures.stops told) (c.sync_all.ensures.stops told)).along

pub returns-clause-mid : goal.returns-clause-mid
returns-clause-mid g c = λ told a sound mid. saves_mid _ c.save_all.ensures.rules a _ _ sound mid (then_synced _ _ _ _ _ (c.save_all.ensures.stops told) (c.sync_all.ensures.stops told)).along

pub returns-clause-syncs : goal.returns-clause-syncs
returns-clause-syncs g c = λ told folders are. subst (λ l. SyncsAtMost (length l) (g.T.Tree.story c.args.tree.now) (g.T.Tree.story c.sync_all.new.tree)) (folders_same (saved_places c.args.ready.now) _ folders c.save_folders.ensures are) (then_synced _ _ _ _ _ (c.save_all.ensures.stops told) (c.sync_all.ensures.stops told)).syncs

pub returns-clause-done : goal.returns-clause-done
returns-clause-done g c = λ told.
    saves_done c.args.ready.now (g.T.Tree.story c.args.tree.now) (g.T.Tree.story c.save_all.new.tree) (g.T.Tree.story c.sync_all.new.tree) c.save_all.ensures.rules _ c.save_folders.ensures (c.save_all.ensures.stops told).along (c.sync_all.ensures.stops told).along (c.in_ok-save_all.ensures.done told) (c.in_ok-sync_all.ensures.done told)
