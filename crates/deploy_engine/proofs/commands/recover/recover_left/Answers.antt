use Rattle.std.proofs.Common.{inl, inr, sym, subst}
use Rattle.tree_fs.specs.declared.place.Root.TheVariants.{Keep}
use Rattle.tree_fs.specs.Spot.{root_spot}
use Rattle.tree_fs.specs.Frames.{EntriesSettled}
use Rattle.tree_fs.specs.Story.{Story, Along, disk_of}
use Rattle.tree_fs.proofs.Moments.{along_last}
use Rattle.desk_model.specs.Places.{manifest_spot}
use Rattle.intent_journal.specs.declared.temp.Temp.TheVariants as temp
use Rattle.intent_journal.specs.Forms.{CanChange}
use Rattle.intent_journal.specs.Found.{IsFound}
use Rattle.intent_journal.specs.Sweeps.{Sweeps}
use Rattle.intent_journal.specs.Temps.{temp_spot, IsFileOrAbsent}
use Rattle.plan_exec.specs.Ending.{NoTemps}
use Rattle.recover_run.proofs.Swept.{can_change, manifest_way}
use Rattle.command_steps.specs.declared.limits.Limits.{Limits}
use Rattle.command_steps.proofs.Orders.{and_then, stops_at, stops_later}
use Rattle.deploy_engine.specs.RecoverWork.{PrintsRecovered}
use Rattle.deploy_engine.proofs.Carrying.{hand_on, turned, failed, gave_up, done, none_found}
use Rattle.deploy_engine.proofs.Recovering.{goes_recovering, leaves_recovered, gives_up_recovering, found_before}
use Rattle.deploy_engine.proofs.commands.recover.recover_left.Goals as goal

-- no limit is asked
any : Limits
any = record { mods = 0; entries = 0; text = 0 }

pub returns-in_err-start_recovery-clause-carried : goal.returns-in_err-start_recovery-clause-carried
returns-in_err-start_recovery-clause-carried g c = λ told limits.
    hand_on c.from_residual.ensures (turned (λ no. no) (stops_at _ (c.in_err-start_recovery.ensures.takes told limits).stopped) (c.start_recovery.ensures.stops told))

pub intent_of-requires : goal.intent_of-requires
intent_of-requires g c = λ told.
    let s = g.T.Tree.story c.args.tree.now in
    let t = g.T.Tree.story c.start_recovery.new.tree in
    let start = (c.in_ok-start_recovery.ensures.takes told any).passed in
    (can_change (disk_of s) (disk_of t) (along_last (Sweeps (disk_of s)) s t (c.start_recovery.ensures.stops told)) (c.in_ok-start_recovery.ensures.gone told temp.Intent) start.all.0).place

pub returns-in_err-found-clause-carried : goal.returns-in_err-found-clause-carried
returns-in_err-found-clause-carried g c = λ told limits.
    let s = g.T.Tree.story c.args.tree.now in
    let start = (c.in_ok-start_recovery.ensures.takes told limits).passed in
    let why = c.in_err-found.ensures.takes told limits in
    hand_on c.from_residual-in_err-found.ensures (turned (λ no. no) (stops_later start why.stopped)
    (subst (Along (Sweeps (disk_of s)) s) (sym (c.intent_of.ensures.same told)) (c.start_recovery.ensures.stops told)))

pub resume_found-requires-clause-found : goal.resume_found-requires-clause-found
resume_found-requires-clause-found g c = λ told.
    subst (λ (q : Story). IsFound (disk_of q) c.in_ok-found.found) (sym (c.intent_of.ensures.same told)) (c.in_ok-found.ensures.takes told any).passed.gives

pub resume_found-requires-clause-start : goal.resume_found-requires-clause-start
resume_found-requires-clause-start g c = λ told.
    let s = g.T.Tree.story c.args.tree.now in
    let t = g.T.Tree.story c.start_recovery.new.tree in
    let start = (c.in_ok-start_recovery.ensures.takes told any).passed in
    subst (λ (q : Story). CanChange (disk_of q)) (sym (c.intent_of.ensures.same told))
    (can_change (disk_of s) (disk_of t) (along_last (Sweeps (disk_of s)) s t (c.start_recovery.ensures.stops told)) (c.in_ok-start_recovery.ensures.gone told temp.Intent) start.all.0)

pub resume_found-requires-clause-temp : goal.resume_found-requires-clause-temp
resume_found-requires-clause-temp g c = λ told.
    subst (λ (q : Story). IsFileOrAbsent (disk_of q) (temp_spot temp.Manifest)) (sym (c.intent_of.ensures.same told)) (inr (c.in_ok-start_recovery.ensures.gone told temp.Manifest))

pub resume_found-requires-clause-place : goal.resume_found-requires-clause-place
resume_found-requires-clause-place g c = λ told.
    let s = g.T.Tree.story c.args.tree.now in
    let t = g.T.Tree.story c.start_recovery.new.tree in
    let start = (c.in_ok-start_recovery.ensures.takes told any).passed in
    subst (λ (q : Story). IsFileOrAbsent (disk_of q) manifest_spot) (sym (c.intent_of.ensures.same told))
    (manifest_way (disk_of s) (disk_of t) (along_last (Sweeps (disk_of s)) s t (c.start_recovery.ensures.stops told)) start.all.1.1.1.1.1.0)

pub returns-in_err-resume_found-clause-carried : goal.returns-in_err-resume_found-clause-carried
returns-in_err-resume_found-clause-carried g c = λ told limits.
    let s = g.T.Tree.story c.args.tree.now in
    let b = g.T.Tree.story c.intent_of.new.tree in
    let u = g.T.Tree.story c.resume_found.new.tree in
    let same = sym (c.intent_of.ensures.same told) in
    let sweeps = subst (Along (Sweeps (disk_of s)) s) same (c.start_recovery.ensures.stops told) in
    let gone = subst (λ (q : Story). NoTemps (disk_of q)) same (c.in_ok-start_recovery.ensures.gone told) in
    let settled = subst (λ (q : Story). EntriesSettled (disk_of q) (root_spot Keep)) same (c.in_ok-start_recovery.ensures.settled told) in
    let passed = and_then (c.in_ok-start_recovery.ensures.takes told limits).passed (c.in_ok-found.ensures.takes told limits).passed in
    let goes = goes_recovering s b u sweeps gone settled (c.resume_found.ensures.resumes told) in
    let stop = c.in_err-resume_found.field-0.0 in
    hand_on c.from_residual-in_err-resume_found.ensures (elim (c.in_err-resume_found.ensures.stuck told) [
      | inl fault ↦ failed (λ no. no) passed.story sweeps goes fault
      | inr stuck ↦ gave_up (λ no. no) passed sweeps goes (gives_up_recovering s b u sweeps gone settled stop stuck)
    ])

pub returns-clause-carried : goal.returns-clause-carried
returns-clause-carried g c = λ told limits.
    let s = g.T.Tree.story c.args.tree.now in
    let t = g.T.Tree.story c.start_recovery.new.tree in
    let b = g.T.Tree.story c.intent_of.new.tree in
    let u = g.T.Tree.story c.resume_found.new.tree in
    let same = sym (c.intent_of.ensures.same told) in
    let stops = c.start_recovery.ensures.stops told in
    let sweeps = subst (Along (Sweeps (disk_of s)) s) same stops in
    let gone = subst (λ (q : Story). NoTemps (disk_of q)) same (c.in_ok-start_recovery.ensures.gone told) in
    let settled = subst (λ (q : Story). EntriesSettled (disk_of q) (root_spot Keep)) same (c.in_ok-start_recovery.ensures.settled told) in
    let last = (c.in_ok-found.ensures.takes told limits).passed in
    let passed = and_then (c.in_ok-start_recovery.ensures.takes told limits).passed last in
    let goes = goes_recovering s b u sweeps gone settled (c.resume_found.ensures.resumes told) in
    let leaves = leaves_recovered s b u sweeps gone settled (c.in_ok-resume_found.ensures.ends told) in
    let before = found_before s t u stops (c.in_ok-start_recovery.ensures.gone told) (c.in_ok-start_recovery.ensures.settled told) c.in_ok-found.found last.gives in
    let prints : PrintsRecovered (record { start = s; base = b; end = u }) c.in_ok-lines.lines.items = record { found = c.in_ok-found.found; is_found = before; line = c.in_ok-lines.ensures } in
    done (λ no. no) passed sweeps goes leaves prints none_found
