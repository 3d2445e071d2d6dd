use Rattle.desk_model.specs.Mid.{Mid}
use Rattle.plan_exec.proofs.Middle.{while_mid, then_while}
use Rattle.plan_exec.specs.Ending.{HasForms}
use Rattle.tree_fs.proofs.Moments.{along_trans, along_last}
use Rattle.intent_journal.proofs.Counting.{syncs_more, syncs_trans}
use Rattle.std.proofs.Common.{◌+◌, length, arith, ◌≤◌, sym, subst}
use Rattle.tree_fs.specs.Story.{disk_of}
use Rattle.rel_paths.specs.declared.control.Control.TheVariants as control
use Rattle.plan_exec.proofs.Chain.{lead_then}
use Rattle.plan_exec.proofs.Closing.{end_from, temps_kept}
use Rattle.plan_exec.proofs.Controls.{way_still}
use Rattle.plan_exec.proofs.whole.carry_out_set.Goals as goal

pub mark_and_end-requires-clause-start : goal.mark_and_end-requires-clause-start
mark_and_end-requires-clause-start g c = λ told. record {
  temp = way_still control.IntentTemp (disk_of (g.T.Tree.story c.args.tree.now)) (disk_of (g.T.Tree.story c.first_steps.new.tree)) (c.first_steps.ensures.controls told control.IntentTemp (λ never. never)) (c.requires.start told).temp;
  place = way_still control.Intent (disk_of (g.T.Tree.story c.args.tree.now)) (disk_of (g.T.Tree.story c.first_steps.new.tree)) (c.first_steps.ensures.controls told control.Intent (λ never. never)) (c.requires.start told).place;
}

pub mark_and_end-requires-clause-temp : goal.mark_and_end-requires-clause-temp
mark_and_end-requires-clause-temp g c = λ told. way_still control.ManifestTemp (disk_of (g.T.Tree.story c.args.tree.now)) (disk_of (g.T.Tree.story c.first_steps.new.tree)) (c.first_steps.ensures.controls told control.ManifestTemp (λ never. never)) (c.requires.temp told)

pub mark_and_end-requires-clause-place : goal.mark_and_end-requires-clause-place
mark_and_end-requires-clause-place g c = λ told. way_still control.Manifest (disk_of (g.T.Tree.story c.args.tree.now)) (disk_of (g.T.Tree.story c.first_steps.new.tree)) (c.first_steps.ensures.controls told control.Manifest (λ never. never)) (c.requires.place told)

pub returns-in-Ok-clause-stops : goal.returns-in-Ok-clause-stops
returns-in-Ok-clause-stops g c = λ told ready temps.
    let t = g.T.Tree.story c.first_steps.new.tree in
    lead_then (g.T.Tree.story c.args.tree.now) t _ (c.first_steps.ensures.stops told ready) (c.mark_and_end.ensures.stops told (c.in-Ok.ensures.ready told ready) (c.in-Ok.ensures.done told ready) (temps_kept (disk_of (g.T.Tree.story c.args.tree.now)) (disk_of t) (c.first_steps.ensures.controls told) temps))

pub returns-in-Ok-clause-done : goal.returns-in-Ok-clause-done
returns-in-Ok-clause-done g c = λ told ready temps.
    let t = g.T.Tree.story c.first_steps.new.tree in
    end_from (g.T.Tree.story c.args.tree.now) t (g.T.Tree.story c.mark_and_end.new.tree) c.mark_and_end.result (c.first_steps.ensures.stops told ready)
    (c.mark_and_end.ensures.done told (c.in-Ok.ensures.ready told ready) (c.in-Ok.ensures.done told ready) (temps_kept (disk_of (g.T.Tree.story c.args.tree.now)) (disk_of t) (c.first_steps.ensures.controls told) temps))

pub returns-in-Ok-clause-never : goal.returns-in-Ok-clause-never
returns-in-Ok-clause-never g c = λ told ready. c.mark_and_end.ensures.never told (c.in-Ok.ensures.ready told ready) (c.in-Ok.ensures.done told ready)

pub returns-in-Ok-clause-syncs : goal.returns-in-Ok-clause-syncs
returns-in-Ok-clause-syncs g c = λ told saved set cleared fs gs hs.
    let m = length saved + length set in
    let n = length cleared + length c.args.ready.now.folders_off in
    syncs_trans m (4 + n) _ (g.T.Tree.story c.first_steps.new.tree) _ (c.first_steps.ensures.syncs told saved set fs gs) (c.mark_and_end.ensures.syncs told cleared hs)

pub returns-in-Err-clause-syncs : goal.returns-in-Err-clause-syncs
returns-in-Err-clause-syncs g c = λ told saved set cleared fs gs hs.
    let m = length saved + length set in
    let n = length cleared + length c.args.ready.now.folders_off in
    syncs_more m (m + (4 + n)) _ _ (omega arith) (c.first_steps.ensures.syncs told saved set fs gs)

pub returns-in-Ok-clause-forms : goal.returns-in-Ok-clause-forms
returns-in-Ok-clause-forms g c = λ told ready temps.
    let t = g.T.Tree.story c.first_steps.new.tree in
    along_trans (HasForms c.args.ready.now) (g.T.Tree.story c.args.tree.now) t _ (c.first_steps.ensures.forms told ready) (c.mark_and_end.ensures.forms told (c.in-Ok.ensures.ready told ready) (c.in-Ok.ensures.done told ready) (temps_kept (disk_of (g.T.Tree.story c.args.tree.now)) (disk_of t) (c.first_steps.ensures.controls told) temps))

pub returns-in-Err-clause-forms : goal.returns-in-Err-clause-forms
returns-in-Err-clause-forms g c = λ told ready temps. c.first_steps.ensures.forms told ready

pub returns-in-Ok-clause-mid : goal.returns-in-Ok-clause-mid
returns-in-Ok-clause-mid g c = λ told ready temps a sound valid fresh mid.
    let plan = c.args.ready.now in
    let s = g.T.Tree.story c.args.tree.now in
    let t = g.T.Tree.story c.first_steps.new.tree in
    let first = c.first_steps.ensures.mid told a sound mid in
    then_while plan a s t _ (while_mid plan a s t first)
    (c.mark_and_end.ensures.mid told c.first_steps.ensures.rules (c.in-Ok.ensures.ready told ready) (c.in-Ok.ensures.done told ready) (temps_kept (disk_of s) (disk_of t) (c.first_steps.ensures.controls told) temps)
    a valid (subst (λ n. a.fresh ≤ n) (sym (c.first_steps.ensures.fresh told)) fresh) (along_last (Mid a plan) s t first))

pub returns-in-Err-clause-mid : goal.returns-in-Err-clause-mid
returns-in-Err-clause-mid g c = λ told ready temps a sound valid fresh mid. while_mid c.args.ready.now a (g.T.Tree.story c.args.tree.now) _ (c.first_steps.ensures.mid told a sound mid)
