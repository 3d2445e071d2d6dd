use Rattle.std.proofs.Common.{◌≤◌, ◌+◌, length, arith, sym, ap, ◌∙◌, subst}
use Rattle.tree_fs.specs.Story.{disk_of, Along}
use Rattle.tree_fs.proofs.Moments.{along_last, along_trans}
use Rattle.move_plan.specs.Sound.{SoundPlan}
use Rattle.intent_json.specs.Forms.{form_of}
use Rattle.desk_model.specs.Mid.{Mid}
use Rattle.desk_model.specs.Places.{manifest_spot}
use Rattle.intent_journal.specs.declared.temp.Temp.TheVariants as temp
use Rattle.intent_journal.specs.Counts.{SyncsAtMost}
use Rattle.intent_journal.specs.Ready.{AreFolders, saved_places, set_places}
use Rattle.intent_journal.specs.Temps.{temp_spot}
use Rattle.intent_journal.proofs.Counting.{syncs_more, syncs_trans}
use Rattle.intent_journal.proofs.Finding.{guard_is}
use Rattle.plan_exec.specs.Ending.{HasForms}
use Rattle.plan_exec.specs.Middle.{MidWhileSet}
use Rattle.plan_exec.specs.Steps.{ToOutcomeOf}
use Rattle.plan_exec.proofs.Chain.{lead_then}
use Rattle.plan_exec.proofs.Closing.{end_from}
use Rattle.plan_exec.proofs.Middle.{then_while, while_mid}
use Rattle.plan_exec.proofs.OneList.{invariant_along}
use Rattle.recover_run.specs.Recovery.{IsFormReady}
use Rattle.recover_run.proofs.Adopted.{adopted_way, adopted_change, adopted_temps, adopted_fresh, adopted_mids, adopted_leads, adopted_forms, adopted_ready}
use Rattle.recover_run.proofs.intent.resume.Goals as goal

pub returns-in_err-guard-clause-stops : goal.returns-in_err-guard-clause-stops
returns-in_err-guard-clause-stops g c = λ told swept. adopted_leads c.args.intent c.requires.accepted (g.T.Tree.story c.args.tree.now) _ (c.requires.there told) swept (c.adopt_intent.ensures.stops told)

pub returns-in_err-guard-clause-keeps : goal.returns-in_err-guard-clause-keeps
returns-in_err-guard-clause-keeps g c = λ told swept.
    let s = g.T.Tree.story c.args.tree.now in
    let a = c.adopt_intent.ensures.stops told in
    let i = c.args.intent in
    invariant_along (ToOutcomeOf (disk_of s)) i.plan s _ (adopted_leads i c.requires.accepted s _ (c.requires.there told) swept a) (adopted_forms i c.requires.accepted s _ (c.requires.there told) swept a)

pub returns-in_err-guard-clause-mid : goal.returns-in_err-guard-clause-mid
returns-in_err-guard-clause-mid g c = λ told swept is a sound valid fresh mid.
    let s = g.T.Tree.story c.args.tree.now in
    while_mid c.args.intent.plan a s _ (adopted_mids s _ (c.adopt_intent.ensures.stops told) c.args.intent.plan a mid)

pub finish_form-requires-clause-guard : goal.finish_form-requires-clause-guard
finish_form-requires-clause-guard g c =
    c.in_ok-guard.ensures.guard c.requires.accepted ∙ sym (guard_is c.args.intent c.requires.accepted) ∙ sym (ap (form_of c.args.intent.phase) c.in-Ok.ensures.same)

pub finish_form-requires-clause-start : goal.finish_form-requires-clause-start
finish_form-requires-clause-start g c = λ told. adopted_change (g.T.Tree.story c.args.tree.now) _ (c.adopt_intent.ensures.stops told) (c.requires.start told)

pub finish_form-requires-clause-temp : goal.finish_form-requires-clause-temp
finish_form-requires-clause-temp g c = λ told. adopted_way (g.T.Tree.story c.args.tree.now) _ (c.adopt_intent.ensures.stops told) (temp_spot temp.Manifest) (c.requires.temp told)

pub finish_form-requires-clause-place : goal.finish_form-requires-clause-place
finish_form-requires-clause-place g c = λ told. adopted_way (g.T.Tree.story c.args.tree.now) _ (c.adopt_intent.ensures.stops told) manifest_spot (c.requires.place told)

pub returns-in-Ok-clause-stops : goal.returns-in-Ok-clause-stops
returns-in-Ok-clause-stops g c = λ told swept.
    let s = g.T.Tree.story c.args.tree.now in
    let t = g.T.Tree.story c.adopt_intent.new.tree in
    let a = c.adopt_intent.ensures.stops told in
    let i = c.args.intent in
    let ready = subst (λ q. IsFormReady i.phase q (disk_of t)) (sym c.in-Ok.ensures.same) (adopted_ready i c.requires.accepted s t (c.requires.there told) swept a) in
    lead_then s t _ (adopted_leads i c.requires.accepted s t (c.requires.there told) swept a) (c.finish_form.ensures.stops told ready (adopted_temps s t a swept.no_temps))

pub returns-in-Ok-clause-done : goal.returns-in-Ok-clause-done
returns-in-Ok-clause-done g c = λ told swept.
    let s = g.T.Tree.story c.args.tree.now in
    let t = g.T.Tree.story c.adopt_intent.new.tree in
    let a = c.adopt_intent.ensures.stops told in
    let i = c.args.intent in
    let ready = subst (λ q. IsFormReady i.phase q (disk_of t)) (sym c.in-Ok.ensures.same) (adopted_ready i c.requires.accepted s t (c.requires.there told) swept a) in
    end_from s t (g.T.Tree.story c.finish_form.new.tree) c.finish_form.result (adopted_leads i c.requires.accepted s t (c.requires.there told) swept a) (c.finish_form.ensures.done told ready (adopted_temps s t a swept.no_temps))

pub returns-in-Ok-clause-never : goal.returns-in-Ok-clause-never
returns-in-Ok-clause-never g c = λ told swept.
    let s = g.T.Tree.story c.args.tree.now in
    let t = g.T.Tree.story c.adopt_intent.new.tree in
    let i = c.args.intent in
    c.finish_form.ensures.never told (subst (λ q. IsFormReady i.phase q (disk_of t)) (sym c.in-Ok.ensures.same) (adopted_ready i c.requires.accepted s t (c.requires.there told) swept (c.adopt_intent.ensures.stops told)))

pub returns-in-Ok-clause-keeps : goal.returns-in-Ok-clause-keeps
returns-in-Ok-clause-keeps g c = λ told swept.
    let s = g.T.Tree.story c.args.tree.now in
    let t = g.T.Tree.story c.adopt_intent.new.tree in
    let u = g.T.Tree.story c.finish_form.new.tree in
    let a = c.adopt_intent.ensures.stops told in
    let i = c.args.intent in
    let temps = adopted_temps s t a swept.no_temps in
    let ready = subst (λ q. IsFormReady i.phase q (disk_of t)) (sym c.in-Ok.ensures.same) (adopted_ready i c.requires.accepted s t (c.requires.there told) swept a) in
    let leads = lead_then s t u (adopted_leads i c.requires.accepted s t (c.requires.there told) swept a) (c.finish_form.ensures.stops told ready temps) in
    let forms = along_trans (HasForms i.plan) s t u (adopted_forms i c.requires.accepted s t (c.requires.there told) swept a)
    (subst (λ q. Along (HasForms q) t u) c.in-Ok.ensures.same (c.finish_form.ensures.forms told ready temps)) in
    invariant_along (ToOutcomeOf (disk_of s)) i.plan s u leads forms

pub returns-in-Ok-clause-syncs : goal.returns-in-Ok-clause-syncs
returns-in-Ok-clause-syncs g c = λ told saved set cleared fs gs hs.
    let s = g.T.Tree.story c.args.tree.now in
    let t = g.T.Tree.story c.adopt_intent.new.tree in
    let u = g.T.Tree.story c.finish_form.new.tree in
    let plan = c.args.intent.plan in
    let n = length saved + length set + (4 + (length cleared + length plan.folders_off)) in
    let rest = subst (λ q. AreFolders (saved_places q) saved → AreFolders (set_places q) set → AreFolders q.clears cleared → SyncsAtMost (length saved + length set + (4 + (length cleared + length q.folders_off))) t u) c.in-Ok.ensures.same (c.finish_form.ensures.syncs told saved set cleared) in
    syncs_more (1 + n) (length saved + length set + length cleared + length plan.folders_off + 5) s u (omega arith) (syncs_trans 1 n s t u (c.adopt_intent.ensures.syncs told) (rest fs gs hs))

pub returns-in-Ok-clause-mid : goal.returns-in-Ok-clause-mid
returns-in-Ok-clause-mid g c = λ told swept is a sound valid fresh mid.
    let s = g.T.Tree.story c.args.tree.now in
    let t = g.T.Tree.story c.adopt_intent.new.tree in
    let u = g.T.Tree.story c.finish_form.new.tree in
    let along = c.adopt_intent.ensures.stops told in
    let i = c.args.intent in
    let same = c.in-Ok.ensures.same in
    let ready = subst (λ q. IsFormReady i.phase q (disk_of t)) (sym same) (adopted_ready i c.requires.accepted s t (c.requires.there told) swept along) in
    let first = adopted_mids s t along i.plan a mid in
    let later = subst (λ n. a.fresh ≤ n) (sym (adopted_fresh s t along)) fresh in
    let last = subst (λ q. Mid a q (disk_of t)) (sym same) (along_last (Mid a i.plan) s t first) in
    then_while i.plan a s t u (while_mid i.plan a s t first)
    (subst (λ q. Along (MidWhileSet a q) t u) same (c.finish_form.ensures.mid told is ready (adopted_temps s t along swept.no_temps) a (subst (SoundPlan a) (sym same) sound) valid later last))

pub returns-in-Err-clause-stops : goal.returns-in-Err-clause-stops
returns-in-Err-clause-stops g c = λ told swept. adopted_leads c.args.intent c.requires.accepted (g.T.Tree.story c.args.tree.now) _ (c.requires.there told) swept (c.adopt_intent.ensures.stops told)

pub returns-in-Err-clause-keeps : goal.returns-in-Err-clause-keeps
returns-in-Err-clause-keeps g c = λ told swept.
    let s = g.T.Tree.story c.args.tree.now in
    let a = c.adopt_intent.ensures.stops told in
    let i = c.args.intent in
    invariant_along (ToOutcomeOf (disk_of s)) i.plan s _ (adopted_leads i c.requires.accepted s _ (c.requires.there told) swept a) (adopted_forms i c.requires.accepted s _ (c.requires.there told) swept a)

pub returns-in-Err-clause-mid : goal.returns-in-Err-clause-mid
returns-in-Err-clause-mid g c = λ told swept is a sound valid fresh mid.
    let s = g.T.Tree.story c.args.tree.now in
    while_mid c.args.intent.plan a s _ (adopted_mids s _ (c.adopt_intent.ensures.stops told) c.args.intent.plan a mid)
