use Rattle.std.proofs.Common.{◌≡◌, ◌≢◌, Bool, refl, inl, sym, ap, subst, ◌∙◌}
use Rattle.std.specs.Prelude.{MatchBool}
use Rattle.tree_fs.specs.declared.place.Root.TheVariants.{Keep}
use Rattle.tree_fs.specs.Spot.{root_spot}
use Rattle.tree_fs.specs.Frames.{EntriesSettled}
use Rattle.tree_fs.specs.Story.{disk_of}
use Rattle.tree_fs.proofs.Moments.{along_same}
use Rattle.rel_paths.specs.declared.control.Control.TheVariants as control
use Rattle.plan_exec.specs.Ending.{NoTemps}
use Rattle.answer_lines.specs.Told.{fixed_line}
use Rattle.command_steps.specs.declared.stop.Stop.TheVariants.{Memory}
use Rattle.command_steps.specs.Profiles.{HasProfile}
use Rattle.command_steps.proofs.Orders.{and_then, stops_at, stops_later, faults, tree_fault}
use Rattle.deploy_engine.proofs.Beginning.{begun_open, begun_quiet}
use Rattle.deploy_engine.proofs.Carrying.{hand_on, turned, failed, done, none_found}
use Rattle.deploy_engine.proofs.Editing.{goes_by, leaves_unchanged, leaves_changed, prints_by}
use Rattle.deploy_engine.proofs.commands.edit.change_profile.Goals as goal

pub returns-in_err-start_change-clause-carried : goal.returns-in_err-start_change-clause-carried
returns-in_err-start_change-clause-carried g c = λ told.
    let why = c.in_err-start_change.ensures.takes told c.args.limits.now in
    hand_on c.from_residual.ensures (turned (λ no. no) (stops_at _ why.stopped) (c.start_change.ensures.stops told))

pub returns-in_err-profile-clause-carried : goal.returns-in_err-profile-clause-carried
returns-in_err-profile-clause-carried g c = λ told.
    let start = (c.in_ok-start_change.ensures.takes told c.args.limits.now).passed in
    let why = c.in_err-profile.ensures.takes told in
    hand_on c.from_residual-in_err-profile.ensures
    (turned (λ no. no) (stops_later start (stops_at _ why.stopped)) (along_same _ _ _ _ (c.start_change.ensures.stops told) (c.profile_of.ensures.same told)))

pub returns-in_err-changed-clause-carried : goal.returns-in_err-changed-clause-carried
returns-in_err-changed-clause-carried g c = λ told.
    let start = (c.in_ok-start_change.ensures.takes told c.args.limits.now).passed in
    let read = (c.in_ok-profile.ensures.takes told).passed in
    let base = g.T.Tree.story c.profile_of.new.tree in
    let has = subst (λ s. HasProfile (disk_of s) c.in_ok-profile.profile) (sym (c.profile_of.ensures.same told)) read.gives in
    let why = c.in_err-changed.ensures.takes base has in
    hand_on c.from_residual-in_err-changed.ensures
    (turned (λ no. no) (stops_later start (stops_later read why.stopped)) (along_same _ _ _ _ (c.start_change.ensures.stops told) (c.profile_of.ensures.same told)))

pub returns-in_err-lines-clause-carried : goal.returns-in_err-lines-clause-carried
returns-in_err-lines-clause-carried g c = λ told.
    hand_on c.from_residual-in_err-lines.ensures (turned (λ no. no) (faults _ _ _ Memory _ tt) (along_same _ _ _ _ (c.start_change.ensures.stops told) (c.profile_of.ensures.same told)))

pub returns-then-not-changed-clause-carried : goal.returns-then-not-changed-clause-carried
returns-then-not-changed-clause-carried g c = λ told.
    let limits = c.args.limits.now in
    let edit = c.args.edit.now in
    let old = g.T.Tree.story c.args.tree.now in
    let base = g.T.Tree.story c.profile_of.new.tree in
    let start = (c.in_ok-start_change.ensures.takes told limits).passed in
    let read = (c.in_ok-profile.ensures.takes told).passed in
    let same = c.profile_of.ensures.same told in
    let p = c.in_ok-profile.profile in
    let q = c.edit_profile.new.profile in
    let has = subst (λ s. HasProfile (disk_of s) p) (sym same) read.gives in
    let made = (c.in_ok-changed.ensures.takes base has).passed in
    let all = and_then start (and_then read made) in
    let swept = along_same _ _ _ _ (c.start_change.ensures.stops told) same in
    let gone = subst (λ s. NoTemps (disk_of s)) (sym same) (c.in_ok-start_change.ensures.gone told) in
    let settled = subst (λ s. EntriesSettled (disk_of s) (root_spot Keep)) (sym same) (c.in_ok-start_change.ensures.settled told) in
    let quiet = begun_quiet limits old base start.all swept gone settled in
    let none = subst (λ (b : Bool). MatchBool b (q ≢ p) (q ≡ p)) c.if-not-changed.true made.gives.1 in
    done (λ no. no) all swept (inl refl)
    (leaves_unchanged edit old base p q has made.gives.0 quiet none base refl)
    (prints_by edit old base p q has made.gives.0 c.in_ok-changed.changed made.gives.1 base c.in_ok-lines.lines.items (c.in_ok-lines.ensures ∙ ap fixed_line c.line_of.ensures))
    none_found

pub put_profile-requires-clause-temp : goal.put_profile-requires-clause-temp
put_profile-requires-clause-temp g c = λ told.
    let start = (c.in_ok-start_change.ensures.takes told c.args.limits.now).passed in
    let same = c.profile_of.ensures.same told in
    begun_open c.args.limits.now _ _ start.all (along_same _ _ _ _ (c.start_change.ensures.stops told) same) (subst (λ s. NoTemps (disk_of s)) (sym same) (c.in_ok-start_change.ensures.gone told)) control.ProfileTemp

pub put_profile-requires-clause-place : goal.put_profile-requires-clause-place
put_profile-requires-clause-place g c = λ told.
    let start = (c.in_ok-start_change.ensures.takes told c.args.limits.now).passed in
    let same = c.profile_of.ensures.same told in
    begun_open c.args.limits.now _ _ start.all (along_same _ _ _ _ (c.start_change.ensures.stops told) same) (subst (λ s. NoTemps (disk_of s)) (sym same) (c.in_ok-start_change.ensures.gone told)) control.Profile

pub returns-in_err-put_profile-clause-carried : goal.returns-in_err-put_profile-clause-carried
returns-in_err-put_profile-clause-carried g c = λ told.
    let limits = c.args.limits.now in
    let old = g.T.Tree.story c.args.tree.now in
    let base = g.T.Tree.story c.profile_of.new.tree in
    let new = g.T.Tree.story c.put_profile.new.tree in
    let start = (c.in_ok-start_change.ensures.takes told limits).passed in
    let read = (c.in_ok-profile.ensures.takes told).passed in
    let same = c.profile_of.ensures.same told in
    let p = c.in_ok-profile.profile in
    let q = c.edit_profile.new.profile in
    let has = subst (λ s. HasProfile (disk_of s) p) (sym same) read.gives in
    let made = (c.in_ok-changed.ensures.takes base has).passed in
    let all = and_then start (and_then read made) in
    let swept = along_same _ _ _ _ (c.start_change.ensures.stops told) same in
    let gone = subst (λ s. NoTemps (disk_of s)) (sym same) (c.in_ok-start_change.ensures.gone told) in
    let settled = subst (λ s. EntriesSettled (disk_of s) (root_spot Keep)) (sym same) (c.in_ok-start_change.ensures.settled told) in
    let quiet = begun_quiet limits old base start.all swept gone settled in
    let differs = subst (λ (b : Bool). MatchBool b (q ≢ p) (q ≡ p)) c.if-not-changed.false made.gives.1 in
    hand_on c.from_residual-in_err-put_profile.ensures
    (failed (λ no. no) all.story swept (goes_by c.args.edit.now old base p q has made.gives.0 quiet differs new (c.put_profile.ensures.goes told)) (tree_fault _))

pub returns-clause-carried : goal.returns-clause-carried
returns-clause-carried g c = λ told.
    let limits = c.args.limits.now in
    let edit = c.args.edit.now in
    let old = g.T.Tree.story c.args.tree.now in
    let base = g.T.Tree.story c.profile_of.new.tree in
    let new = g.T.Tree.story c.put_profile.new.tree in
    let start = (c.in_ok-start_change.ensures.takes told limits).passed in
    let read = (c.in_ok-profile.ensures.takes told).passed in
    let same = c.profile_of.ensures.same told in
    let p = c.in_ok-profile.profile in
    let q = c.edit_profile.new.profile in
    let has = subst (λ s. HasProfile (disk_of s) p) (sym same) read.gives in
    let made = (c.in_ok-changed.ensures.takes base has).passed in
    let all = and_then start (and_then read made) in
    let swept = along_same _ _ _ _ (c.start_change.ensures.stops told) same in
    let gone = subst (λ s. NoTemps (disk_of s)) (sym same) (c.in_ok-start_change.ensures.gone told) in
    let settled = subst (λ s. EntriesSettled (disk_of s) (root_spot Keep)) (sym same) (c.in_ok-start_change.ensures.settled told) in
    let quiet = begun_quiet limits old base start.all swept gone settled in
    let differs = subst (λ (b : Bool). MatchBool b (q ≢ p) (q ≡ p)) c.if-not-changed.false made.gives.1 in
    done (λ no. no) all swept
    (goes_by edit old base p q has made.gives.0 quiet differs new (c.put_profile.ensures.goes told))
    (leaves_changed edit old base p q has made.gives.0 quiet differs new (c.in_ok-put_profile.ensures.done told))
    (prints_by edit old base p q has made.gives.0 c.in_ok-changed.changed made.gives.1 new c.in_ok-lines.lines.items (c.in_ok-lines.ensures ∙ ap fixed_line c.line_of.ensures))
    none_found
