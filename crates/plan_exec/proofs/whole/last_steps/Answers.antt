use Rattle.plan_exec.proofs.Middle.{manifest_unset, then_unset}
use Rattle.plan_exec.specs.Ending.{HasForms}
use Rattle.plan_exec.proofs.OneList.{manifest_forms}
use Rattle.intent_journal.proofs.Counting.{syncs_more, syncs_trans}
use Rattle.std.proofs.Common.{◌+◌, length, arith}
use Rattle.tree_fs.specs.Story.{disk_of}
use Rattle.tree_fs.proofs.Moments.{along_last, along_trans}
use Rattle.std.proofs.Common.{◌∙◌}
use Rattle.intent_journal.specs.declared.temp.Temp.TheVariants as temp
use Rattle.intent_journal.specs.Temps.{Beside}
use Rattle.plan_exec.proofs.Chain.{lead_then}
use Rattle.plan_exec.proofs.Closing.{can_end}
use Rattle.plan_exec.proofs.Controls.{controls_manifest}
use Rattle.plan_exec.proofs.ManifestStands.{manifest_ready}
use Rattle.plan_exec.proofs.whole.last_steps.Goals as goal

pub returns-in_err-put_manifest-clause-controls : goal.returns-in_err-put_manifest-clause-controls
returns-in_err-put_manifest-clause-controls g c = λ told. controls_manifest (disk_of (g.T.Tree.story c.args.tree.now)) _ (along_last (Beside temp.Manifest (disk_of (g.T.Tree.story c.args.tree.now))) (g.T.Tree.story c.args.tree.now) _ (c.put_manifest.ensures.only told))

pub returns-clause-controls : goal.returns-clause-controls
returns-clause-controls g c = λ told which out.
    let t = g.T.Tree.story c.put_manifest.new.tree in
    c.do_clears.ensures.controls told which (λ never. never)
    ∙ controls_manifest (disk_of (g.T.Tree.story c.args.tree.now)) (disk_of t) (along_last (Beside temp.Manifest (disk_of (g.T.Tree.story c.args.tree.now))) (g.T.Tree.story c.args.tree.now) t (c.put_manifest.ensures.only told)) which out

pub returns-clause-stops : goal.returns-clause-stops
returns-clause-stops g c = λ told ready.
    let t = g.T.Tree.story c.put_manifest.new.tree in
    let again = manifest_ready c.args.ready.now (disk_of (g.T.Tree.story c.args.tree.now)) ready (disk_of t) (along_last (Beside temp.Manifest (disk_of (g.T.Tree.story c.args.tree.now))) (g.T.Tree.story c.args.tree.now) t (c.put_manifest.ensures.only told)) in
    lead_then (g.T.Tree.story c.args.tree.now) t _ (c.put_manifest.ensures.stops told ready) (c.do_clears.ensures.stops told again)

pub returns-clause-never : goal.returns-clause-never
returns-clause-never g c = λ told ready.
    let t = g.T.Tree.story c.put_manifest.new.tree in
    c.do_clears.ensures.never told (manifest_ready c.args.ready.now (disk_of (g.T.Tree.story c.args.tree.now)) ready (disk_of t) (along_last (Beside temp.Manifest (disk_of (g.T.Tree.story c.args.tree.now))) (g.T.Tree.story c.args.tree.now) t (c.put_manifest.ensures.only told)))

pub returns-clause-done : goal.returns-clause-done
returns-clause-done g c = λ told ready absent.
    let t = g.T.Tree.story c.put_manifest.new.tree in
    let again = manifest_ready c.args.ready.now (disk_of (g.T.Tree.story c.args.tree.now)) ready (disk_of t) (along_last (Beside temp.Manifest (disk_of (g.T.Tree.story c.args.tree.now))) (g.T.Tree.story c.args.tree.now) t (c.put_manifest.ensures.only told)) in
    can_end c.args.ready.now (disk_of (g.T.Tree.story c.do_clears.new.tree)) c.do_clears.result (c.do_clears.ensures.again told again)
    (c.do_clears.ensures.manifest told (c.in_ok-put_manifest.ensures.done told absent)) (c.do_clears.ensures.done told) (c.do_clears.ensures.off told)

pub returns-in_err-put_manifest-clause-syncs : goal.returns-in_err-put_manifest-clause-syncs
returns-in_err-put_manifest-clause-syncs g c = λ told cleared fs. syncs_more 2 (2 + (length cleared + length c.args.ready.now.folders_off)) _ _ (omega arith) (c.put_manifest.ensures.syncs told)

pub returns-clause-syncs : goal.returns-clause-syncs
returns-clause-syncs g c = λ told cleared fs. syncs_trans 2 (length cleared + length c.args.ready.now.folders_off) _ _ _ (c.put_manifest.ensures.syncs told) (c.do_clears.ensures.syncs told cleared fs)

pub returns-in_err-put_manifest-clause-forms : goal.returns-in_err-put_manifest-clause-forms
returns-in_err-put_manifest-clause-forms g c = λ told ready. manifest_forms c.args.ready.now (g.T.Tree.story c.args.tree.now) _ ready (c.put_manifest.ensures.only told)

pub returns-clause-forms : goal.returns-clause-forms
returns-clause-forms g c = λ told ready.
    let t = g.T.Tree.story c.put_manifest.new.tree in
    let again = manifest_ready c.args.ready.now (disk_of (g.T.Tree.story c.args.tree.now)) ready (disk_of t) (along_last (Beside temp.Manifest (disk_of (g.T.Tree.story c.args.tree.now))) (g.T.Tree.story c.args.tree.now) t (c.put_manifest.ensures.only told)) in
    along_trans (HasForms c.args.ready.now) (g.T.Tree.story c.args.tree.now) t _ (manifest_forms c.args.ready.now (g.T.Tree.story c.args.tree.now) t ready (c.put_manifest.ensures.only told)) (c.do_clears.ensures.forms told again)

pub returns-in_err-put_manifest-clause-unset : goal.returns-in_err-put_manifest-clause-unset
returns-in_err-put_manifest-clause-unset g c = λ told ready. manifest_unset c.args.ready.now (g.T.Tree.story c.args.tree.now) _ ready (c.put_manifest.ensures.only told)

pub returns-clause-unset : goal.returns-clause-unset
returns-clause-unset g c = λ told ready.
    let s = g.T.Tree.story c.args.tree.now in
    let t = g.T.Tree.story c.put_manifest.new.tree in
    let again = manifest_ready c.args.ready.now (disk_of s) ready (disk_of t) (along_last (Beside temp.Manifest (disk_of s)) s t (c.put_manifest.ensures.only told)) in
    then_unset c.args.ready.now s t _ (manifest_unset c.args.ready.now s t ready (c.put_manifest.ensures.only told)) (λ unset. c.do_clears.ensures.unset told again)
