use Rattle.plan_exec.proofs.Middle.{finish_unset, given_up_unset}
use Rattle.plan_exec.proofs.OneList.{closed_forms, given_up_forms}
use Rattle.intent_journal.proofs.Counting.{syncs_trans}
use Rattle.tree_fs.specs.Story.{disk_of}
use Rattle.tree_fs.proofs.Moments.{along_last}
use Rattle.std.proofs.Common.{◌≡◌, ◌∙◌, ap, sym, subst, Some, None}
use Rattle.std.specs.Prelude.{IfSome}
use Rattle.intent_json.specs.Forms.{clear_form}
use Rattle.desk_model.specs.Places.{intent_spot}
use Rattle.intent_journal.specs.declared.temp.Temp.TheVariants as temp
use Rattle.intent_journal.specs.Forms.{BetweenForms}
use Rattle.intent_journal.proofs.Clearing.{no_folder}
use Rattle.plan_exec.specs.Steps.{ToOutcomeOf}
use Rattle.plan_exec.proofs.Chain.{lead_given_up, to_outcome}
use Rattle.plan_exec.proofs.Closing.{closing, closed, holds_clear, ends_stand, temps_still}
use Rattle.plan_exec.proofs.whole.close.Goals as goal

pub returns-in-Ok-clause-stops : goal.returns-in-Ok-clause-stops
returns-in-Ok-clause-stops g c = λ told can.
    let plan = c.args.ready.now in
    let s = g.T.Tree.story c.args.tree.now in
    closing plan s _ can (c.finish.ensures.leads told (Some (clear_form plan)) (holds_clear plan (disk_of s) can) (ends_stand plan (disk_of s) can))

pub returns-in-Err-clause-stops : goal.returns-in-Err-clause-stops
returns-in-Err-clause-stops g c = λ told can.
    let plan = c.args.ready.now in
    let s = g.T.Tree.story c.args.tree.now in
    let t = g.T.Tree.story c.finish.new.tree in
    lead_given_up (ToOutcomeOf (disk_of s)) (to_outcome (disk_of s)) s t _
    (closing plan s t can (c.finish.ensures.leads told (Some (clear_form plan)) (holds_clear plan (disk_of s) can) (ends_stand plan (disk_of s) can)))
    (c.give_up.ensures.stops told temp.Intent (subst (λ o. IfSome o (λ w. w ≡ temp.Intent)) (sym c.in-Err.ensures.held.1) tt))

pub returns-in-Ok-clause-done : goal.returns-in-Ok-clause-done
returns-in-Ok-clause-done g c = λ told can temps.
    let plan = c.args.ready.now in
    let s = g.T.Tree.story c.args.tree.now in
    let t = g.T.Tree.story c.finish.new.tree in
    let holds = holds_clear plan (disk_of s) can in
    let last = along_last (BetweenForms (Some (clear_form plan)) None (disk_of s)) s t (c.finish.ensures.stops told (Some (clear_form plan)) can.ready.standing.firm holds) in
    closed s t (closing plan s t can (c.finish.ensures.leads told (Some (clear_form plan)) holds (ends_stand plan (disk_of s) can)))
    (ap (λ f. f intent_spot) last.beside.folders ∙ no_folder (disk_of s) intent_spot (c.requires told))
    (c.in-Ok.ensures.done told) (c.in-Ok.ensures.settled told) (temps_still (disk_of s) (disk_of t) (c.finish.ensures.still told) temps)

pub returns-in-Err-clause-syncs : goal.returns-in-Err-clause-syncs
returns-in-Err-clause-syncs g c = λ told. syncs_trans 1 0 _ (g.T.Tree.story c.finish.new.tree) _ (c.finish.ensures.syncs told) (c.give_up.ensures.syncs told)

pub returns-in-Ok-clause-forms : goal.returns-in-Ok-clause-forms
returns-in-Ok-clause-forms g c = λ told can.
    let plan = c.args.ready.now in
    let s = g.T.Tree.story c.args.tree.now in
    closed_forms plan s _ (c.finish.ensures.stops told (Some (clear_form plan)) can.ready.standing.firm (holds_clear plan (disk_of s) can))

pub returns-in-Err-clause-forms : goal.returns-in-Err-clause-forms
returns-in-Err-clause-forms g c = λ told can.
    let plan = c.args.ready.now in
    let s = g.T.Tree.story c.args.tree.now in
    let t = g.T.Tree.story c.finish.new.tree in
    let holds = holds_clear plan (disk_of s) can in
    given_up_forms (ToOutcomeOf (disk_of s)) plan s t _ (closing plan s t can (c.finish.ensures.leads told (Some (clear_form plan)) holds (ends_stand plan (disk_of s) can)))
    (closed_forms plan s t (c.finish.ensures.stops told (Some (clear_form plan)) can.ready.standing.firm holds))
    (c.give_up.ensures.stops told temp.Intent (subst (λ o. IfSome o (λ w. w ≡ temp.Intent)) (sym c.in-Err.ensures.held.1) tt))

pub returns-in-Ok-clause-unset : goal.returns-in-Ok-clause-unset
returns-in-Ok-clause-unset g c = λ told can. finish_unset c.args.ready.now (g.T.Tree.story c.args.tree.now) _ can.ready (c.finish.ensures.only told)

pub returns-in-Err-clause-unset : goal.returns-in-Err-clause-unset
returns-in-Err-clause-unset g c = λ told can.
    given_up_unset c.args.ready.now (g.T.Tree.story c.args.tree.now) (g.T.Tree.story c.finish.new.tree) _ can.ready (c.finish.ensures.only told)
    (c.give_up.ensures.stops told temp.Intent (subst (λ o. IfSome o (λ w. w ≡ temp.Intent)) (sym c.in-Err.ensures.held.1) tt))
