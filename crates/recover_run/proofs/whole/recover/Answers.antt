use Rattle.std.proofs.Common.{◌≤◌, ◌+◌, length, arith, sym, ◌∙◌, inl, inr, subst}
use Rattle.tree_fs.specs.Story.{disk_of}
use Rattle.tree_fs.proofs.Moments.{along_last, along_trans}
use Rattle.desk_model.specs.Mid.{Mid}
use Rattle.desk_model.specs.Standing.{Invariant, Standing}
use Rattle.desk_model.specs.Stops.{Leads}
use Rattle.intent_journal.specs.declared.temp.Temp.TheVariants as temp
use Rattle.intent_journal.specs.Sweeps.{Sweeps, LeadsLikeAStop}
use Rattle.intent_journal.proofs.Counting.{syncs_more, syncs_same, syncs_trans}
use Rattle.plan_exec.specs.Steps.{ToOutcomeOf}
use Rattle.plan_exec.proofs.Middle.{then_while, while_mid}
use Rattle.recover_run.proofs.Behind.{end_as, lead_as, leads_stand, leads_like, only_memory}
use Rattle.recover_run.proofs.Found.{there_still, tells_ok, reason_err}
use Rattle.recover_run.proofs.Swept.{sweeps_outcome, intent_kind, manifest_way, can_change, sweeps_invariant, sweeps_mids, is_swept}
use Rattle.recover_run.proofs.whole.recover.Goals as goal

pub returns-in_err-sweep_temps-clause-leaves : goal.returns-in_err-sweep_temps-clause-leaves
returns-in_err-sweep_temps-clause-leaves g c = λ told standing.
    let s = g.T.Tree.story c.args.tree.now in
    along_last (LeadsLikeAStop (disk_of s)) s _ (c.sweep_temps.ensures.leads told standing)

pub returns-in_err-sweep_temps-clause-keeps : goal.returns-in_err-sweep_temps-clause-keeps
returns-in_err-sweep_temps-clause-keeps g c = λ told inv. sweeps_invariant (g.T.Tree.story c.args.tree.now) _ inv (c.sweep_temps.ensures.stops told) (c.sweep_temps.ensures.stands told inv.standing)

pub returns-in_err-sweep_temps-clause-mid : goal.returns-in_err-sweep_temps-clause-mid
returns-in_err-sweep_temps-clause-mid g c = λ told standing a plan sound valid fresh there mid.
    let s = g.T.Tree.story c.args.tree.now in
    while_mid plan a s _ (sweeps_mids plan sound.rules a s _ mid (c.sweep_temps.ensures.stops told))

pub go_on-requires-clause-start : goal.go_on-requires-clause-start
go_on-requires-clause-start g c = λ told.
    let s = g.T.Tree.story c.args.tree.now in
    let t = g.T.Tree.story c.sweep_temps.new.tree in
    can_change (disk_of s) (disk_of t) (along_last (Sweeps (disk_of s)) s t (c.sweep_temps.ensures.stops told)) (c.in_ok-sweep_temps.ensures.gone told temp.Intent) (c.requires.intent told)

pub go_on-requires-clause-temp : goal.go_on-requires-clause-temp
go_on-requires-clause-temp g c = λ told. inr (c.in_ok-sweep_temps.ensures.gone told temp.Manifest)

pub go_on-requires-clause-place : goal.go_on-requires-clause-place
go_on-requires-clause-place g c = λ told.
    let s = g.T.Tree.story c.args.tree.now in
    let t = g.T.Tree.story c.sweep_temps.new.tree in
    manifest_way (disk_of s) (disk_of t) (along_last (Sweeps (disk_of s)) s t (c.sweep_temps.ensures.stops told)) (c.requires.manifest told)

pub returns-clause-done : goal.returns-clause-done
returns-clause-done g c = λ told standing.
    let s = g.T.Tree.story c.args.tree.now in
    let t = g.T.Tree.story c.sweep_temps.new.tree in
    let u = g.T.Tree.story c.go_on.new.tree in
    let sweeps = c.sweep_temps.ensures.stops told in
    let swept = is_swept s t (c.sweep_temps.ensures.stands told standing) (c.in_ok-sweep_temps.ensures.gone told) (c.in_ok-sweep_temps.ensures.settled told) in
    end_as (disk_of s) (disk_of t) (disk_of u) c.go_on.result (sweeps_outcome (disk_of s) (disk_of t) standing (along_last (Sweeps (disk_of s)) s t sweeps)) (c.go_on.ensures.done told swept)

pub returns-clause-stops : goal.returns-clause-stops
returns-clause-stops g c = λ told standing.
    let s = g.T.Tree.story c.args.tree.now in
    let t = g.T.Tree.story c.sweep_temps.new.tree in
    let u = g.T.Tree.story c.go_on.new.tree in
    let sweeps = c.sweep_temps.ensures.stops told in
    let swept = is_swept s t (c.sweep_temps.ensures.stands told standing) (c.in_ok-sweep_temps.ensures.gone told) (c.in_ok-sweep_temps.ensures.settled told) in
    inr (record {
      swept = t;
      whole = c.in_ok-sweep_temps.ensures.ops told;
      barrier = record { sweeps = sweeps; leads = c.sweep_temps.ensures.leads told standing };
      leads = lead_as (disk_of s) t u (sweeps_outcome (disk_of s) (disk_of t) standing (along_last (Sweeps (disk_of s)) s t sweeps)) (c.go_on.ensures.stops told swept);
    })

pub returns-clause-leaves : goal.returns-clause-leaves
returns-clause-leaves g c = λ told standing.
    let s = g.T.Tree.story c.args.tree.now in
    let t = g.T.Tree.story c.sweep_temps.new.tree in
    let u = g.T.Tree.story c.go_on.new.tree in
    let sweeps = c.sweep_temps.ensures.stops told in
    let swept = is_swept s t (c.sweep_temps.ensures.stands told standing) (c.in_ok-sweep_temps.ensures.gone told) (c.in_ok-sweep_temps.ensures.settled told) in
    let leads = lead_as (disk_of s) t u (sweeps_outcome (disk_of s) (disk_of t) standing (along_last (Sweeps (disk_of s)) s t sweeps)) (c.go_on.ensures.stops told swept) in
    leads_like (disk_of s) (disk_of u) standing (along_last (Leads (ToOutcomeOf (disk_of s))) t u leads)

pub returns-clause-stands : goal.returns-clause-stands
returns-clause-stands g c = λ told standing.
    let s = g.T.Tree.story c.args.tree.now in
    let t = g.T.Tree.story c.sweep_temps.new.tree in
    let u = g.T.Tree.story c.go_on.new.tree in
    let stands = c.sweep_temps.ensures.stands told standing in
    let swept = is_swept s t stands (c.in_ok-sweep_temps.ensures.gone told) (c.in_ok-sweep_temps.ensures.settled told) in
    along_trans Standing s t u stands (leads_stand (disk_of t) t u (c.go_on.ensures.stops told swept))

pub returns-clause-keeps : goal.returns-clause-keeps
returns-clause-keeps g c = λ told inv.
    let s = g.T.Tree.story c.args.tree.now in
    let t = g.T.Tree.story c.sweep_temps.new.tree in
    let u = g.T.Tree.story c.go_on.new.tree in
    let stands = c.sweep_temps.ensures.stands told inv.standing in
    let swept = is_swept s t stands (c.in_ok-sweep_temps.ensures.gone told) (c.in_ok-sweep_temps.ensures.settled told) in
    let first = sweeps_invariant s t inv (c.sweep_temps.ensures.stops told) stands in
    along_trans Invariant s t u first (c.go_on.ensures.keeps told swept (along_last Invariant s t first))

pub returns-clause-never : goal.returns-clause-never
returns-clause-never g c = λ told standing.
    let s = g.T.Tree.story c.args.tree.now in
    let t = g.T.Tree.story c.sweep_temps.new.tree in
    c.go_on.ensures.never told (is_swept s t (c.sweep_temps.ensures.stands told standing) (c.in_ok-sweep_temps.ensures.gone told) (c.in_ok-sweep_temps.ensures.settled told))

pub returns-clause-complete : goal.returns-clause-complete
returns-clause-complete g c = λ told standing calm.
    let s = g.T.Tree.story c.args.tree.now in
    let t = g.T.Tree.story c.sweep_temps.new.tree in
    let swept = is_swept s t (c.sweep_temps.ensures.stands told standing) (c.in_ok-sweep_temps.ensures.gone told) (c.in_ok-sweep_temps.ensures.settled told) in
    let first = c.sweep_temps.ensures.cause.later in
    only_memory c.go_on.result _ _ (c.go_on.ensures.never told swept) c.go_on.ensures.cause
    (λ rose. calm (elim rose [ inl more ↦ inl (omega arith) | inr full ↦ inr full ]))

pub returns-clause-tells : goal.returns-clause-tells
returns-clause-tells g c = λ told.
    let s = g.T.Tree.story c.args.tree.now in
    let t = g.T.Tree.story c.sweep_temps.new.tree in
    tells_ok (disk_of s) (disk_of t) (along_last (Sweeps (disk_of s)) s t (c.sweep_temps.ensures.stops told)) c.go_on.result (c.go_on.ensures.tells told)

pub returns-clause-errors : goal.returns-clause-errors
returns-clause-errors g c = λ told.
    let s = g.T.Tree.story c.args.tree.now in
    let t = g.T.Tree.story c.sweep_temps.new.tree in
    reason_err (disk_of s) (disk_of t) (along_last (Sweeps (disk_of s)) s t (c.sweep_temps.ensures.stops told)) c.go_on.result (c.go_on.ensures.errors told)

pub returns-clause-none : goal.returns-clause-none
returns-clause-none g c = λ told gone.
    let s = g.T.Tree.story c.args.tree.now in
    let t = g.T.Tree.story c.sweep_temps.new.tree in
    let u = g.T.Tree.story c.go_on.new.tree in
    let sweeps = along_last (Sweeps (disk_of s)) s t (c.sweep_temps.ensures.stops told) in
    syncs_trans 1 0 s t u (c.sweep_temps.ensures.syncs told) (syncs_same t u (c.go_on.ensures.none told (intent_kind (disk_of s) (disk_of t) sweeps ∙ gone)))

pub returns-clause-syncs : goal.returns-clause-syncs
returns-clause-syncs g c = λ told i there saved set cleared fs gs hs.
    let s = g.T.Tree.story c.args.tree.now in
    let t = g.T.Tree.story c.sweep_temps.new.tree in
    let u = g.T.Tree.story c.go_on.new.tree in
    let n = length saved + length set + length cleared + length i.plan.folders_off in
    let still = there_still (disk_of s) (disk_of t) (along_last (Sweeps (disk_of s)) s t (c.sweep_temps.ensures.stops told)) i there in
    syncs_more (1 + (n + 5)) (n + 6) s u (omega arith) (syncs_trans 1 (n + 5) s t u (c.sweep_temps.ensures.syncs told) (c.go_on.ensures.syncs told i still saved set cleared fs gs hs))

pub returns-clause-mid : goal.returns-clause-mid
returns-clause-mid g c = λ told standing a plan sound valid fresh there mid.
    let s = g.T.Tree.story c.args.tree.now in
    let t = g.T.Tree.story c.sweep_temps.new.tree in
    let u = g.T.Tree.story c.go_on.new.tree in
    let sweeps = c.sweep_temps.ensures.stops told in
    let last = along_last (Sweeps (disk_of s)) s t sweeps in
    let swept = is_swept s t (c.sweep_temps.ensures.stands told standing) (c.in_ok-sweep_temps.ensures.gone told) (c.in_ok-sweep_temps.ensures.settled told) in
    let first = sweeps_mids plan sound.rules a s t mid sweeps in
    let later = subst (λ n. a.fresh ≤ n) (sym last.files.fresh) fresh in
    then_while plan a s t u (while_mid plan a s t first)
    (c.go_on.ensures.mid told swept a plan sound valid later (there_still (disk_of s) (disk_of t) last _ there) (along_last (Mid a plan) s t first))
