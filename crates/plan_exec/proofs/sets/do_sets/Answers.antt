use Rattle.std.proofs.Common.{length, subst, arith}
use Rattle.list_laws.proofs.Truths.{if_err-from_same}
use Rattle.plan_exec.specs.Causes.{IsFault}
use Rattle.intent_journal.specs.Counts.{SyncsAtMost}
use Rattle.plan_exec.proofs.Obstacles.{never_first}
use Rattle.intent_journal.proofs.Counting.{syncs_more}
use Rattle.plan_exec.proofs.Readied.{folders_same}
use Rattle.intent_journal.specs.Ready.{set_places}
use Rattle.plan_exec.proofs.Putting.{then_synced}
use Rattle.plan_exec.proofs.SetsStand.{sets_lead, sets_done, sets_free}
use Rattle.plan_exec.proofs.SetsMids.{sets_mid}
use Rattle.plan_exec.proofs.sets.do_sets.Goals as goal

pub returns-in_err-put_all-clause-stops : goal.returns-in_err-put_all-clause-stops
returns-in_err-put_all-clause-stops g c = λ told start. sets_lead _ _ _ start (c.put_all.ensures.stops told).along

pub returns-in_err-put_all-clause-only : goal.returns-in_err-put_all-clause-only
returns-in_err-put_all-clause-only g c = λ told. (c.put_all.ensures.stops told).along

pub returns-in_err-put_all-clause-mid : goal.returns-in_err-put_all-clause-mid
returns-in_err-put_all-clause-mid g c = λ told a mid done. sets_mid _ c.put_all.ensures.rules a _ _ mid done (c.put_all.ensures.stops told).along

pub returns-in_err-put_all-clause-syncs : goal.returns-in_err-put_all-clause-syncs
returns-in_err-put_all-clause-syncs g c = λ told folders are. syncs_more 0 _ _ _ (omega arith) (c.put_all.ensures.stops told).syncs

pub returns-in_err-put_all-clause-never : goal.returns-in_err-put_all-clause-never
returns-in_err-put_all-clause-never g c = λ told start.
    let e = c.in_err-put_all.field-0.0 in
    if_err-from_same IsFault c.from_residual.result e c.from_residual.ensures.1
    (never_first _ _ _ _ (sets_free _ _ start) e (c.in_err-put_all.ensures.errors told))

pub returns-in_err-sync_all-clause-stops : goal.returns-in_err-sync_all-clause-stops
returns-in_err-sync_all-clause-stops g c = λ told start. sets_lead _ _ _ start (then_synced _ _ _ _ _ (c.put_all.ensures.stops told) (c.sync_all.ensures.stops told)).along

pub returns-in_err-sync_all-clause-only : goal.returns-in_err-sync_all-clause-only
returns-in_err-sync_all-clause-only g c = λ told. (then_synced _ _ _ _ _ (c.put_all.ensures.stops told) (c.sync_all.ensures.stops told)).along

pub returns-in_err-sync_all-clause-mid : goal.returns-in_err-sync_all-clause-mid
returns-in_err-sync_all-clause-mid g c = λ told a mid done. sets_mid _ c.put_all.ensures.rules a _ _ mid done (then_synced _ _ _ _ _ (c.put_all.ensures.stops told) (c.sync_all.ensures.stops told)).along

pub returns-in_err-sync_all-clause-syncs : goal.returns-in_err-sync_all-clause-syncs
returns-in_err-sync_all-clause-syncs g c = λ told folders are. subst (λ l. SyncsAtMost (length l) (g.T.Tree.story c.args.tree.now) (g.T.Tree.story c.sync_all.new.tree)) (folders_same (set_places c.args.ready.now) _ folders c.set_folders.ensures are) (then_synced _ _ _ _ _ (c.put_all.ensures.stops told) (c.sync_all.ensures.stops told)).syncs

pub returns-clause-stops : goal.returns-clause-stops
returns-clause-stops g c = λ told start. sets_lead _ _ _ start (then_synced _ _ _ _ _ (c.put_all.ensures.stops told) (c.sync_all.ensures.stops told)).along

pub returns-clause-only : goal.returns-clause-only
returns-clause-only g c = λ told. (then_synced _ _ _ _ _ (c.put_all.ensures.stops told) (c.sync_all.ensures.stops told)).along

pub returns-clause-mid : goal.returns-clause-mid
returns-clause-mid g c = λ told a mid done. sets_mid _ c.put_all.ensures.rules a _ _ mid done (then_synced _ _ _ _ _ (c.put_all.ensures.stops told) (c.sync_all.ensures.stops told)).along

pub returns-clause-syncs : goal.returns-clause-syncs
returns-clause-syncs g c = λ told folders are. subst (λ l. SyncsAtMost (length l) (g.T.Tree.story c.args.tree.now) (g.T.Tree.story c.sync_all.new.tree)) (folders_same (set_places c.args.ready.now) _ folders c.set_folders.ensures are) (then_synced _ _ _ _ _ (c.put_all.ensures.stops told) (c.sync_all.ensures.stops told)).syncs

pub returns-clause-done : goal.returns-clause-done
returns-clause-done g c = λ told.
    sets_done c.args.ready.now (g.T.Tree.story c.args.tree.now) (g.T.Tree.story c.put_all.new.tree) (g.T.Tree.story c.sync_all.new.tree) c.put_all.ensures.rules _ c.set_folders.ensures (c.put_all.ensures.stops told).along (c.sync_all.ensures.stops told).along (c.in_ok-put_all.ensures.done told) (c.in_ok-sync_all.ensures.done told)
