use Rattle.desk_model.specs.Mid.{Mid}
use Rattle.plan_exec.proofs.Mids.{beside_mids}
use Rattle.plan_exec.proofs.Middle.{starts_mid, given_up_mids, while_mid, then_while}
use Rattle.plan_exec.specs.Ending.{HasForms}
use Rattle.plan_exec.proofs.OneList.{begun_forms, given_up_forms, invariant_along}
use Rattle.intent_journal.proofs.Counting.{syncs_more, syncs_trans}
use Rattle.std.proofs.Common.{◌+◌, length, arith}
use Rattle.tree_fs.specs.Story.{disk_of}
use Rattle.tree_fs.proofs.Moments.{along_last, along_trans}
use Rattle.std.proofs.Common.{inl, inr, None, Some}
use Rattle.rel_paths.specs.declared.control.Control.TheVariants as control
use Rattle.intent_json.specs.Forms.{set_form}
use Rattle.desk_model.specs.Stops.{Leads}
use Rattle.intent_journal.specs.declared.temp.Temp.TheVariants as temp
use Rattle.intent_journal.specs.Temps.{Beside}
use Rattle.intent_journal.specs.Forms.{ToEither}
use Rattle.plan_exec.proofs.Beginning.{begins_both, begins_none, begun_ready, begun_outcome, to_either, leads_on, stops_old_or_new, executed}
use Rattle.plan_exec.proofs.Chain.{lead_given_up}
use Rattle.plan_exec.proofs.Closing.{temps_beside}
use Rattle.plan_exec.proofs.Controls.{way_still, controls_intent}
use Rattle.plan_exec.proofs.whole.execute.Goals as goal

pub carry_out_set-requires-clause-start : goal.carry_out_set-requires-clause-start
carry_out_set-requires-clause-start g c = λ told. record { temp = inr (c.in-Ok.ensures.done told).gone; place = inl (c.in-Ok.ensures.done told).there }

pub carry_out_set-requires-clause-temp : goal.carry_out_set-requires-clause-temp
carry_out_set-requires-clause-temp g c = λ told.
    let s = g.T.Tree.story c.args.tree.now in
    let t = g.T.Tree.story c.begin.new.tree in
    way_still control.ManifestTemp (disk_of s) (disk_of t) (controls_intent (disk_of s) (disk_of t) (along_last (Beside temp.Intent (disk_of s)) s t (c.begin.ensures.only told)) control.ManifestTemp (λ is. elim is [ inl h ↦ cc | inr h ↦ cc ])) (c.requires.manifest_temp told)

pub carry_out_set-requires-clause-place : goal.carry_out_set-requires-clause-place
carry_out_set-requires-clause-place g c = λ told.
    let s = g.T.Tree.story c.args.tree.now in
    let t = g.T.Tree.story c.begin.new.tree in
    way_still control.Manifest (disk_of s) (disk_of t) (controls_intent (disk_of s) (disk_of t) (along_last (Beside temp.Intent (disk_of s)) s t (c.begin.ensures.only told)) control.Manifest (λ is. elim is [ inl h ↦ cc | inr h ↦ cc ])) (c.requires.manifest told)

pub returns-in-Ok-clause-done : goal.returns-in-Ok-clause-done
returns-in-Ok-clause-done g c = λ told can.
    let plan = c.args.ready.now in
    let s = g.T.Tree.story c.args.tree.now in
    let t = g.T.Tree.story c.begin.new.tree in
    let begun = c.begin.ensures.leads told None (begins_none plan (disk_of s) can) (begins_both plan (disk_of s) can) in
    let u = g.T.Tree.story c.carry_out_set.new.tree in
    let between = c.begin.ensures.stops told None can.standing.firm (begins_none plan (disk_of s) can) in
    let same = begun_outcome plan s t can between (c.in-Ok.ensures.holds told) in
    let ready = begun_ready plan s t can _ begun (c.in-Ok.ensures.done told) (c.in-Ok.ensures.holds told) in
    let beside = along_last (Beside temp.Intent (disk_of s)) s t (c.begin.ensures.only told) in
    let temps = temps_beside (disk_of s) (disk_of t) beside (c.in-Ok.ensures.done told).gone can.no_temps in
    executed plan (disk_of s) (disk_of t) (disk_of u) c.carry_out_set.result same (c.carry_out_set.ensures.done told ready temps)

pub returns-in-Ok-clause-stops : goal.returns-in-Ok-clause-stops
returns-in-Ok-clause-stops g c = λ told can.
    let plan = c.args.ready.now in
    let s = g.T.Tree.story c.args.tree.now in
    let t = g.T.Tree.story c.begin.new.tree in
    let begun = c.begin.ensures.leads told None (begins_none plan (disk_of s) can) (begins_both plan (disk_of s) can) in
    let u = g.T.Tree.story c.carry_out_set.new.tree in
    let between = c.begin.ensures.stops told None can.standing.firm (begins_none plan (disk_of s) can) in
    let same = begun_outcome plan s t can between (c.in-Ok.ensures.holds told) in
    let ready = begun_ready plan s t can _ begun (c.in-Ok.ensures.done told) (c.in-Ok.ensures.holds told) in
    let beside = along_last (Beside temp.Intent (disk_of s)) s t (c.begin.ensures.only told) in
    let temps = temps_beside (disk_of s) (disk_of t) beside (c.in-Ok.ensures.done told).gone can.no_temps in
    let all = along_trans (Leads (ToEither (disk_of s) None (Some (set_form plan)))) s t u begun (leads_on plan (disk_of s) t u same (c.carry_out_set.ensures.stops told ready temps)) in
    stops_old_or_new plan s u all

pub returns-in-Ok-clause-leaves : goal.returns-in-Ok-clause-leaves
returns-in-Ok-clause-leaves g c = λ told can.
    let plan = c.args.ready.now in
    let s = g.T.Tree.story c.args.tree.now in
    let t = g.T.Tree.story c.begin.new.tree in
    let begun = c.begin.ensures.leads told None (begins_none plan (disk_of s) can) (begins_both plan (disk_of s) can) in
    let u = g.T.Tree.story c.carry_out_set.new.tree in
    let between = c.begin.ensures.stops told None can.standing.firm (begins_none plan (disk_of s) can) in
    let same = begun_outcome plan s t can between (c.in-Ok.ensures.holds told) in
    let ready = begun_ready plan s t can _ begun (c.in-Ok.ensures.done told) (c.in-Ok.ensures.holds told) in
    let beside = along_last (Beside temp.Intent (disk_of s)) s t (c.begin.ensures.only told) in
    let temps = temps_beside (disk_of s) (disk_of t) beside (c.in-Ok.ensures.done told).gone can.no_temps in
    let all = along_trans (Leads (ToEither (disk_of s) None (Some (set_form plan)))) s t u begun (leads_on plan (disk_of s) t u same (c.carry_out_set.ensures.stops told ready temps)) in
    along_last (Leads (ToEither (disk_of s) None (Some (set_form plan)))) s u all

pub returns-in-Ok-clause-never : goal.returns-in-Ok-clause-never
returns-in-Ok-clause-never g c = λ told can.
    let plan = c.args.ready.now in
    let s = g.T.Tree.story c.args.tree.now in
    let t = g.T.Tree.story c.begin.new.tree in
    let begun = c.begin.ensures.leads told None (begins_none plan (disk_of s) can) (begins_both plan (disk_of s) can) in
    let u = g.T.Tree.story c.carry_out_set.new.tree in
    let between = c.begin.ensures.stops told None can.standing.firm (begins_none plan (disk_of s) can) in
    let same = begun_outcome plan s t can between (c.in-Ok.ensures.holds told) in
    let ready = begun_ready plan s t can _ begun (c.in-Ok.ensures.done told) (c.in-Ok.ensures.holds told) in
    let beside = along_last (Beside temp.Intent (disk_of s)) s t (c.begin.ensures.only told) in
    let temps = temps_beside (disk_of s) (disk_of t) beside (c.in-Ok.ensures.done told).gone can.no_temps in
    c.carry_out_set.ensures.never told ready

pub returns-in-Err-clause-stops : goal.returns-in-Err-clause-stops
returns-in-Err-clause-stops g c = λ told can.
    let plan = c.args.ready.now in
    let s = g.T.Tree.story c.args.tree.now in
    let t = g.T.Tree.story c.begin.new.tree in
    let begun = c.begin.ensures.leads told None (begins_none plan (disk_of s) can) (begins_both plan (disk_of s) can) in
    let w = g.T.Tree.story c.give_up.new.tree in
    let all = lead_given_up (ToEither (disk_of s) None (Some (set_form plan))) (to_either plan (disk_of s)) s t w begun (c.give_up.ensures.stops told temp.Intent c.in-Err.ensures.temp) in
    stops_old_or_new plan s w all

pub returns-in-Err-clause-leaves : goal.returns-in-Err-clause-leaves
returns-in-Err-clause-leaves g c = λ told can.
    let plan = c.args.ready.now in
    let s = g.T.Tree.story c.args.tree.now in
    let t = g.T.Tree.story c.begin.new.tree in
    let begun = c.begin.ensures.leads told None (begins_none plan (disk_of s) can) (begins_both plan (disk_of s) can) in
    let w = g.T.Tree.story c.give_up.new.tree in
    let all = lead_given_up (ToEither (disk_of s) None (Some (set_form plan))) (to_either plan (disk_of s)) s t w begun (c.give_up.ensures.stops told temp.Intent c.in-Err.ensures.temp) in
    along_last (Leads (ToEither (disk_of s) None (Some (set_form plan)))) s w all

pub returns-in-Ok-clause-syncs : goal.returns-in-Ok-clause-syncs
returns-in-Ok-clause-syncs g c = λ told saved set cleared fs gs hs.
    let all = length saved + length set + (4 + (length cleared + length c.args.ready.now.folders_off)) in
    syncs_more (1 + all) (length saved + length set + length cleared + length c.args.ready.now.folders_off + 5) _ _ (omega arith)
    (syncs_trans 1 all _ (g.T.Tree.story c.begin.new.tree) _ (c.begin.ensures.syncs told) (c.carry_out_set.ensures.syncs told saved set cleared fs gs hs))

pub returns-in-Err-clause-syncs : goal.returns-in-Err-clause-syncs
returns-in-Err-clause-syncs g c = λ told saved set cleared fs gs hs.
    syncs_more (1 + 0) (length saved + length set + length cleared + length c.args.ready.now.folders_off + 5) _ _ (omega arith)
    (syncs_trans 1 0 _ (g.T.Tree.story c.begin.new.tree) _ (c.begin.ensures.syncs told) (c.give_up.ensures.syncs told))

pub returns-in-Ok-clause-keeps : goal.returns-in-Ok-clause-keeps
returns-in-Ok-clause-keeps g c = λ told can.
    let plan = c.args.ready.now in
    let s = g.T.Tree.story c.args.tree.now in
    let t = g.T.Tree.story c.begin.new.tree in
    let begun = c.begin.ensures.leads told None (begins_none plan (disk_of s) can) (begins_both plan (disk_of s) can) in
    let u = g.T.Tree.story c.carry_out_set.new.tree in
    let between = c.begin.ensures.stops told None can.standing.firm (begins_none plan (disk_of s) can) in
    let same = begun_outcome plan s t can between (c.in-Ok.ensures.holds told) in
    let ready = begun_ready plan s t can _ begun (c.in-Ok.ensures.done told) (c.in-Ok.ensures.holds told) in
    let beside = along_last (Beside temp.Intent (disk_of s)) s t (c.begin.ensures.only told) in
    let temps = temps_beside (disk_of s) (disk_of t) beside (c.in-Ok.ensures.done told).gone can.no_temps in
    let all = along_trans (Leads (ToEither (disk_of s) None (Some (set_form plan)))) s t u begun (leads_on plan (disk_of s) t u same (c.carry_out_set.ensures.stops told ready temps)) in
    invariant_along (ToEither (disk_of s) None (Some (set_form plan))) plan s u all
    (along_trans (HasForms plan) s t u (begun_forms plan s t between) (c.carry_out_set.ensures.forms told ready temps))

pub returns-in-Err-clause-keeps : goal.returns-in-Err-clause-keeps
returns-in-Err-clause-keeps g c = λ told can.
    let plan = c.args.ready.now in
    let s = g.T.Tree.story c.args.tree.now in
    let t = g.T.Tree.story c.begin.new.tree in
    let begun = c.begin.ensures.leads told None (begins_none plan (disk_of s) can) (begins_both plan (disk_of s) can) in
    let w = g.T.Tree.story c.give_up.new.tree in
    let all = lead_given_up (ToEither (disk_of s) None (Some (set_form plan))) (to_either plan (disk_of s)) s t w begun (c.give_up.ensures.stops told temp.Intent c.in-Err.ensures.temp) in
    let between = c.begin.ensures.stops told None can.standing.firm (begins_none plan (disk_of s) can) in
    invariant_along (ToEither (disk_of s) None (Some (set_form plan))) plan s w all
    (given_up_forms (ToEither (disk_of s) None (Some (set_form plan))) plan s t w begun (begun_forms plan s t between) (c.give_up.ensures.stops told temp.Intent c.in-Err.ensures.temp))

pub returns-in-Ok-clause-mid : goal.returns-in-Ok-clause-mid
returns-in-Ok-clause-mid g c = λ told can.
    let plan = c.args.ready.now in
    let s = g.T.Tree.story c.args.tree.now in
    let t = g.T.Tree.story c.begin.new.tree in
    let begun = c.begin.ensures.leads told None (begins_none plan (disk_of s) can) (begins_both plan (disk_of s) can) in
    let ready = begun_ready plan s t can _ begun (c.in-Ok.ensures.done told) (c.in-Ok.ensures.holds told) in
    let beside = along_last (Beside temp.Intent (disk_of s)) s t (c.begin.ensures.only told) in
    let temps = temps_beside (disk_of s) (disk_of t) beside (c.in-Ok.ensures.done told).gone can.no_temps in
    let first = beside_mids plan can.sound.rules (disk_of s) s t can.standing.valid (omega arith) (starts_mid plan (disk_of s) can) (c.begin.ensures.only told) in
    then_while plan (disk_of s) s t _ (while_mid plan (disk_of s) s t first)
    (c.carry_out_set.ensures.mid told ready temps (disk_of s) can.sound can.standing.valid beside.fresh (along_last (Mid (disk_of s) plan) s t first))

pub returns-in-Err-clause-mid : goal.returns-in-Err-clause-mid
returns-in-Err-clause-mid g c = λ told can.
    let plan = c.args.ready.now in
    let s = g.T.Tree.story c.args.tree.now in
    while_mid plan (disk_of s) s _ (given_up_mids plan can.sound.rules (disk_of s) s (g.T.Tree.story c.begin.new.tree) _ can.standing.valid (omega arith) (starts_mid plan (disk_of s) can) (c.begin.ensures.only told) (c.give_up.ensures.stops told temp.Intent c.in-Err.ensures.temp))
