use Rattle.plan_exec.proofs.Mids.{beside_mids}
use Rattle.plan_exec.proofs.Middle.{given_up_mids, while_mid, while_unset, then_while}
use Rattle.plan_exec.specs.Ending.{HasForms}
use Rattle.plan_exec.proofs.OneList.{given_up_forms}
use Rattle.intent_journal.proofs.Counting.{syncs_more, syncs_trans}
use Rattle.std.proofs.Common.{◌+◌, length, arith}
use Rattle.tree_fs.specs.Story.{disk_of}
use Rattle.tree_fs.proofs.Moments.{along_last, along_trans}
use Rattle.std.proofs.Common.{inl, inr}
use Rattle.rel_paths.specs.declared.control.Control.TheVariants as control
use Rattle.intent_journal.specs.declared.temp.Temp.TheVariants as temp
use Rattle.intent_journal.specs.Temps.{Beside}
use Rattle.plan_exec.specs.Steps.{ToOutcomeOf}
use Rattle.plan_exec.proofs.Chain.{lead_then, lead_given_up, to_outcome}
use Rattle.plan_exec.proofs.Closing.{end_from, temps_beside}
use Rattle.plan_exec.proofs.Controls.{way_still, controls_intent}
use Rattle.plan_exec.proofs.whole.mark_and_end.Goals as goal

pub carry_out_clear-requires-clause-temp : goal.carry_out_clear-requires-clause-temp
carry_out_clear-requires-clause-temp g c = λ told.
    let s = g.T.Tree.story c.args.tree.now in
    let t = g.T.Tree.story c.mark.new.tree in
    way_still control.ManifestTemp (disk_of s) (disk_of t) (controls_intent (disk_of s) (disk_of t) (along_last (Beside temp.Intent (disk_of s)) s t (c.mark.ensures.only told)) control.ManifestTemp (λ is. elim is [ inl h ↦ cc | inr h ↦ cc ])) (c.requires.temp told)

pub carry_out_clear-requires-clause-place : goal.carry_out_clear-requires-clause-place
carry_out_clear-requires-clause-place g c = λ told.
    let s = g.T.Tree.story c.args.tree.now in
    let t = g.T.Tree.story c.mark.new.tree in
    way_still control.Manifest (disk_of s) (disk_of t) (controls_intent (disk_of s) (disk_of t) (along_last (Beside temp.Intent (disk_of s)) s t (c.mark.ensures.only told)) control.Manifest (λ is. elim is [ inl h ↦ cc | inr h ↦ cc ])) (c.requires.place told)

pub returns-in-Ok-clause-stops : goal.returns-in-Ok-clause-stops
returns-in-Ok-clause-stops g c = λ told ready done temps.
    let s = g.T.Tree.story c.args.tree.now in
    let t = g.T.Tree.story c.mark.new.tree in
    let beside = along_last (Beside temp.Intent (disk_of s)) s t (c.mark.ensures.only told) in
    lead_then s t _ (c.mark.ensures.stops told ready done) (c.carry_out_clear.ensures.stops told (c.in-Ok.ensures.done told ready done) (temps_beside (disk_of s) (disk_of t) beside (c.in-Ok.ensures.installed told).gone temps))

pub returns-in-Ok-clause-done : goal.returns-in-Ok-clause-done
returns-in-Ok-clause-done g c = λ told ready done temps.
    let s = g.T.Tree.story c.args.tree.now in
    let t = g.T.Tree.story c.mark.new.tree in
    let beside = along_last (Beside temp.Intent (disk_of s)) s t (c.mark.ensures.only told) in
    end_from s t (g.T.Tree.story c.carry_out_clear.new.tree) c.carry_out_clear.result (c.mark.ensures.stops told ready done)
    (c.carry_out_clear.ensures.done told (c.in-Ok.ensures.done told ready done) (temps_beside (disk_of s) (disk_of t) beside (c.in-Ok.ensures.installed told).gone temps))

pub returns-in-Ok-clause-never : goal.returns-in-Ok-clause-never
returns-in-Ok-clause-never g c = λ told ready done. c.carry_out_clear.ensures.never told (c.in-Ok.ensures.done told ready done)

pub returns-in-Err-clause-stops : goal.returns-in-Err-clause-stops
returns-in-Err-clause-stops g c = λ told ready done temps.
    let s = g.T.Tree.story c.args.tree.now in
    lead_given_up (ToOutcomeOf (disk_of s)) (to_outcome (disk_of s)) s (g.T.Tree.story c.mark.new.tree) _ (c.mark.ensures.stops told ready done) (c.give_up.ensures.stops told temp.Intent c.in-Err.ensures.temp)

pub returns-in-Ok-clause-syncs : goal.returns-in-Ok-clause-syncs
returns-in-Ok-clause-syncs g c = λ told cleared fs.
    let n = length cleared + length c.args.ready.now.folders_off in
    syncs_more (1 + (3 + n)) (4 + n) _ _ (omega arith) (syncs_trans 1 (3 + n) _ (g.T.Tree.story c.mark.new.tree) _ (c.mark.ensures.syncs told) (c.carry_out_clear.ensures.syncs told cleared fs))

pub returns-in-Err-clause-syncs : goal.returns-in-Err-clause-syncs
returns-in-Err-clause-syncs g c = λ told cleared fs.
    let n = length cleared + length c.args.ready.now.folders_off in
    syncs_more (1 + 0) (4 + n) _ _ (omega arith) (syncs_trans 1 0 _ (g.T.Tree.story c.mark.new.tree) _ (c.mark.ensures.syncs told) (c.give_up.ensures.syncs told))

pub returns-in-Ok-clause-forms : goal.returns-in-Ok-clause-forms
returns-in-Ok-clause-forms g c = λ told ready done temps.
    let s = g.T.Tree.story c.args.tree.now in
    let t = g.T.Tree.story c.mark.new.tree in
    let beside = along_last (Beside temp.Intent (disk_of s)) s t (c.mark.ensures.only told) in
    along_trans (HasForms c.args.ready.now) s t _ (c.mark.ensures.forms told ready done) (c.carry_out_clear.ensures.forms told (c.in-Ok.ensures.done told ready done) (temps_beside (disk_of s) (disk_of t) beside (c.in-Ok.ensures.installed told).gone temps))

pub returns-in-Err-clause-forms : goal.returns-in-Err-clause-forms
returns-in-Err-clause-forms g c = λ told ready done temps.
    let s = g.T.Tree.story c.args.tree.now in
    given_up_forms (ToOutcomeOf (disk_of s)) c.args.ready.now s (g.T.Tree.story c.mark.new.tree) _ (c.mark.ensures.stops told ready done) (c.mark.ensures.forms told ready done) (c.give_up.ensures.stops told temp.Intent c.in-Err.ensures.temp)

pub returns-in-Ok-clause-mid : goal.returns-in-Ok-clause-mid
returns-in-Ok-clause-mid g c = λ told rules ready done temps a valid fresh mid.
    let plan = c.args.ready.now in
    let s = g.T.Tree.story c.args.tree.now in
    let t = g.T.Tree.story c.mark.new.tree in
    let beside = along_last (Beside temp.Intent (disk_of s)) s t (c.mark.ensures.only told) in
    then_while plan a s t _ (while_mid plan a s t (beside_mids plan rules a s t valid fresh mid (c.mark.ensures.only told)))
    (while_unset plan a t _ (c.carry_out_clear.ensures.unset told (c.in-Ok.ensures.done told ready done) (temps_beside (disk_of s) (disk_of t) beside (c.in-Ok.ensures.installed told).gone temps)))

pub returns-in-Err-clause-mid : goal.returns-in-Err-clause-mid
returns-in-Err-clause-mid g c = λ told rules ready done temps a valid fresh mid.
    let s = g.T.Tree.story c.args.tree.now in
    while_mid c.args.ready.now a s _ (given_up_mids c.args.ready.now rules a s (g.T.Tree.story c.mark.new.tree) _ valid fresh mid (c.mark.ensures.only told) (c.give_up.ensures.stops told temp.Intent c.in-Err.ensures.temp))
