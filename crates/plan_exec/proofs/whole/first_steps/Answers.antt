use Rattle.plan_exec.proofs.Middle.{made_mids, then_mids}
use Rattle.move_plan.specs.Places.{Has}
use Rattle.plan_exec.specs.Making.{Makes}
use Rattle.plan_exec.specs.Ending.{HasForms, NoControl}
use Rattle.plan_exec.proofs.OneList.{made_forms, moved_forms}
use Rattle.intent_journal.proofs.Counting.{syncs_more, syncs_trans}
use Rattle.std.proofs.Common.{◌+◌, length, arith, ◌∙◌}
use Rattle.tree_fs.specs.Story.{disk_of}
use Rattle.tree_fs.proofs.Moments.{along_last, along_trans}
use Rattle.plan_exec.specs.Frames.{Moves}
use Rattle.plan_exec.proofs.Chain.{lead_then}
use Rattle.plan_exec.proofs.Controls.{controls_trans, controls_moved}
use Rattle.plan_exec.proofs.whole.first_steps.Goals as goal

pub returns-clause-stops : goal.returns-clause-stops
returns-clause-stops g c = λ told ready.
    lead_then (g.T.Tree.story c.args.tree.now) (g.T.Tree.story c.make_folders.new.tree) _ (c.make_folders.ensures.stops told ready) (c.save_and_set.ensures.stops told (c.make_folders.ensures.again told ready) (c.in_ok-make_folders.ensures.done told))

pub returns-clause-ready : goal.returns-clause-ready
returns-clause-ready g c = λ told ready. c.save_and_set.ensures.ready told (c.make_folders.ensures.again told ready) (c.in_ok-make_folders.ensures.done told)

pub returns-clause-done : goal.returns-clause-done
returns-clause-done g c = λ told ready. c.save_and_set.ensures.done told (c.make_folders.ensures.again told ready) (c.in_ok-make_folders.ensures.done told)

pub returns-clause-never : goal.returns-clause-never
returns-clause-never g c = λ told ready. c.save_and_set.ensures.never told (c.make_folders.ensures.again told ready) (c.in_ok-make_folders.ensures.done told)

pub returns-clause-controls : goal.returns-clause-controls
returns-clause-controls g c = λ told.
    let t = g.T.Tree.story c.make_folders.new.tree in
    let u = g.T.Tree.story c.save_and_set.new.tree in
    controls_trans NoControl (disk_of (g.T.Tree.story c.args.tree.now)) (disk_of t) (disk_of u) (c.make_folders.ensures.controls told)
    (controls_moved c.args.ready.now c.make_folders.ensures.rules (disk_of t) (disk_of u) (along_last (Moves c.args.ready.now (disk_of t)) t u (c.save_and_set.ensures.only told)))

pub returns-in_err-make_folders-clause-syncs : goal.returns-in_err-make_folders-clause-syncs
returns-in_err-make_folders-clause-syncs g c = λ told saved set fs gs. syncs_more 0 (length saved + length set) _ _ (omega arith) (c.make_folders.ensures.syncs told)

pub returns-clause-syncs : goal.returns-clause-syncs
returns-clause-syncs g c = λ told saved set fs gs. syncs_more (0 + (length saved + length set)) (length saved + length set) _ _ (omega arith) (syncs_trans 0 (length saved + length set) _ (g.T.Tree.story c.make_folders.new.tree) _ (c.make_folders.ensures.syncs told) (c.save_and_set.ensures.syncs told saved set fs gs))

pub returns-in_err-make_folders-clause-forms : goal.returns-in_err-make_folders-clause-forms
returns-in_err-make_folders-clause-forms g c = λ told ready. made_forms c.args.ready.now (g.T.Tree.story c.args.tree.now) _ ready (c.make_folders.ensures.only told)

pub returns-clause-forms : goal.returns-clause-forms
returns-clause-forms g c = λ told ready.
    let plan = c.args.ready.now in
    let t = g.T.Tree.story c.make_folders.new.tree in
    let u = g.T.Tree.story c.save_and_set.new.tree in
    along_trans (HasForms plan) (g.T.Tree.story c.args.tree.now) t u (made_forms plan (g.T.Tree.story c.args.tree.now) t ready (c.make_folders.ensures.only told))
    (moved_forms plan c.make_folders.ensures.rules t u (c.make_folders.ensures.again told ready) (c.save_and_set.ensures.only told))

pub returns-in_err-make_folders-clause-mid : goal.returns-in_err-make_folders-clause-mid
returns-in_err-make_folders-clause-mid g c = λ told a sound mid. made_mids c.args.ready.now a (g.T.Tree.story c.args.tree.now) _ mid (c.make_folders.ensures.only told)

pub returns-clause-mid : goal.returns-clause-mid
returns-clause-mid g c = λ told a sound mid.
    then_mids c.args.ready.now a (g.T.Tree.story c.args.tree.now) (g.T.Tree.story c.make_folders.new.tree) _ (made_mids c.args.ready.now a (g.T.Tree.story c.args.tree.now) _ mid (c.make_folders.ensures.only told)) (λ m. c.save_and_set.ensures.mid told a sound m)

pub returns-in_err-make_folders-clause-fresh : goal.returns-in_err-make_folders-clause-fresh
returns-in_err-make_folders-clause-fresh g c = λ told. (along_last (Makes (Has c.args.ready.now.folders) (disk_of (g.T.Tree.story c.args.tree.now))) (g.T.Tree.story c.args.tree.now) _ (c.make_folders.ensures.only told)).same.fresh

pub returns-clause-fresh : goal.returns-clause-fresh
returns-clause-fresh g c = λ told.
    let t = g.T.Tree.story c.make_folders.new.tree in
    (along_last (Moves c.args.ready.now (disk_of t)) t _ (c.save_and_set.ensures.only told)).files.fresh ∙ (along_last (Makes (Has c.args.ready.now.folders) (disk_of (g.T.Tree.story c.args.tree.now))) (g.T.Tree.story c.args.tree.now) t (c.make_folders.ensures.only told)).same.fresh
