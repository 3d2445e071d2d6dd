use Rattle.plan_exec.proofs.Middle.{then_unset}
use Rattle.plan_exec.specs.Ending.{HasForms}
use Rattle.tree_fs.proofs.Moments.{along_trans}
use Rattle.intent_journal.proofs.Counting.{syncs_more, syncs_trans}
use Rattle.std.proofs.Common.{◌+◌, length, arith}
use Rattle.tree_fs.specs.Story.{disk_of}
use Rattle.std.proofs.Common.{inl, inr}
use Rattle.rel_paths.specs.declared.control.Control.TheVariants as control
use Rattle.intent_journal.specs.declared.temp.Temp.TheVariants as temp
use Rattle.plan_exec.proofs.Chain.{lead_then}
use Rattle.plan_exec.proofs.Closing.{end_from, temps_manifest}
use Rattle.plan_exec.proofs.Controls.{way_still}
use Rattle.plan_exec.proofs.whole.carry_out_clear.Goals as goal

pub close-requires : goal.close-requires
close-requires g c = λ told. way_still control.Intent (disk_of (g.T.Tree.story c.args.tree.now)) (disk_of (g.T.Tree.story c.last_steps.new.tree)) (c.last_steps.ensures.controls told control.Intent (λ is. elim is [ inl h ↦ cc | inr h ↦ cc ])) (c.requires.intent told)

pub returns-in-Ok-clause-stops : goal.returns-in-Ok-clause-stops
returns-in-Ok-clause-stops g c = λ told ready temps.
    lead_then (g.T.Tree.story c.args.tree.now) (g.T.Tree.story c.last_steps.new.tree) _ (c.last_steps.ensures.stops told ready) (c.close.ensures.stops told (c.in-Ok.ensures.done told ready (temps temp.Manifest)))

pub returns-in-Ok-clause-done : goal.returns-in-Ok-clause-done
returns-in-Ok-clause-done g c = λ told ready temps.
    let t = g.T.Tree.story c.last_steps.new.tree in
    let can = c.in-Ok.ensures.done told ready (temps temp.Manifest) in
    end_from (g.T.Tree.story c.args.tree.now) t (g.T.Tree.story c.close.new.tree) c.close.result (c.last_steps.ensures.stops told ready)
    (c.close.ensures.done told can (temps_manifest (disk_of (g.T.Tree.story c.args.tree.now)) (disk_of t) (c.last_steps.ensures.controls told) can.manifest.gone temps))

pub returns-in-Ok-clause-syncs : goal.returns-in-Ok-clause-syncs
returns-in-Ok-clause-syncs g c = λ told cleared fs.
    let n = length cleared + length c.args.ready.now.folders_off in
    syncs_more (2 + n + 1) (3 + n) _ _ (omega arith) (syncs_trans (2 + n) 1 _ (g.T.Tree.story c.last_steps.new.tree) _ (c.last_steps.ensures.syncs told cleared fs) (c.close.ensures.syncs told))

pub returns-in-Err-clause-syncs : goal.returns-in-Err-clause-syncs
returns-in-Err-clause-syncs g c = λ told cleared fs.
    let n = length cleared + length c.args.ready.now.folders_off in
    syncs_more (2 + n) (3 + n) _ _ (omega arith) (c.last_steps.ensures.syncs told cleared fs)

pub returns-in-Ok-clause-forms : goal.returns-in-Ok-clause-forms
returns-in-Ok-clause-forms g c = λ told ready temps.
    along_trans (HasForms c.args.ready.now) (g.T.Tree.story c.args.tree.now) (g.T.Tree.story c.last_steps.new.tree) _ (c.last_steps.ensures.forms told ready) (c.close.ensures.forms told (c.in-Ok.ensures.done told ready (temps temp.Manifest)))

pub returns-in-Err-clause-forms : goal.returns-in-Err-clause-forms
returns-in-Err-clause-forms g c = λ told ready temps. c.last_steps.ensures.forms told ready

pub returns-in-Ok-clause-unset : goal.returns-in-Ok-clause-unset
returns-in-Ok-clause-unset g c = λ told ready temps.
    then_unset c.args.ready.now (g.T.Tree.story c.args.tree.now) (g.T.Tree.story c.last_steps.new.tree) _ (c.last_steps.ensures.unset told ready) (λ unset. c.close.ensures.unset told (c.in-Ok.ensures.done told ready (temps temp.Manifest)))

pub returns-in-Err-clause-unset : goal.returns-in-Err-clause-unset
returns-in-Err-clause-unset g c = λ told ready temps. c.last_steps.ensures.unset told ready
