use Rattle.plan_exec.proofs.Middle.{clears_unset, off_unset, ready_unset, then_unset}
use Rattle.plan_exec.specs.Ending.{HasForms, NoControl}
use Rattle.plan_exec.proofs.OneList.{cleared_forms, off_forms}
use Rattle.std.proofs.Common.{sym, subst}
use Rattle.tree_fs.specs.Story.{Along, disk_of}
use Rattle.tree_fs.proofs.Moments.{along_last, along_trans}
use Rattle.move_plan.specs.declared.plan.Plan.{Plan}
use Rattle.move_plan.specs.Rules.{PassesRules}
use Rattle.plan_exec.specs.Frames.{Clears}
use Rattle.plan_exec.specs.TakingOff.{TakesOff}
use Rattle.plan_exec.proofs.Chain.{lead_then}
use Rattle.plan_exec.proofs.Controls.{controls_trans, controls_cleared, controls_off, manifest_cleared, manifest_off}
use Rattle.plan_exec.proofs.ClearsStand.{clears_again}
use Rattle.plan_exec.proofs.OffStands.{off_along, off_ready, clears_after}
use Rattle.plan_exec.proofs.off.do_clears.Goals as goal

pub take_folders_off-requires : goal.take_folders_off-requires
take_folders_off-requires g c = subst PassesRules (sym c.plan.ensures.same) c.plan.ensures.rules

pub returns-in_err-unlink_clears-clause-again : goal.returns-in_err-unlink_clears-clause-again
returns-in_err-unlink_clears-clause-again g c = λ told ready. clears_again c.args.ready.now (g.T.Tree.story c.args.tree.now) _ ready (c.unlink_clears.ensures.only told)

pub returns-in_err-unlink_clears-clause-controls : goal.returns-in_err-unlink_clears-clause-controls
returns-in_err-unlink_clears-clause-controls g c = λ told. controls_cleared c.args.ready.now c.unlink_clears.ensures.rules (disk_of (g.T.Tree.story c.args.tree.now)) _ (along_last (Clears c.args.ready.now (disk_of (g.T.Tree.story c.args.tree.now))) (g.T.Tree.story c.args.tree.now) _ (c.unlink_clears.ensures.only told))

pub returns-in_err-unlink_clears-clause-manifest : goal.returns-in_err-unlink_clears-clause-manifest
returns-in_err-unlink_clears-clause-manifest g c = λ told. manifest_cleared c.args.ready.now c.unlink_clears.ensures.rules (disk_of (g.T.Tree.story c.args.tree.now)) _ (along_last (Clears c.args.ready.now (disk_of (g.T.Tree.story c.args.tree.now))) (g.T.Tree.story c.args.tree.now) _ (c.unlink_clears.ensures.only told))

pub returns-in_err-take_folders_off-clause-stops : goal.returns-in_err-take_folders_off-clause-stops
returns-in_err-take_folders_off-clause-stops g c = λ told ready.
    let plan = c.args.ready.now in
    let s = g.T.Tree.story c.args.tree.now in
    let t = g.T.Tree.story c.unlink_clears.new.tree in
    let u = g.T.Tree.story c.take_folders_off.new.tree in
    let rules = c.unlink_clears.ensures.rules in
    let cleared = along_last (Clears plan (disk_of s)) s t (c.unlink_clears.ensures.only told) in
    let off = subst (λ (p : Plan). Along (TakesOff p.folders_off (disk_of t)) t u) c.plan.ensures.same (c.take_folders_off.ensures.stops told).along in
    let taken = along_last (TakesOff plan.folders_off (disk_of t)) t u off in
    lead_then s t u (c.unlink_clears.ensures.stops told ready) (off_along plan t u (clears_again plan s t ready (c.unlink_clears.ensures.only told)) off)

pub returns-in_err-take_folders_off-clause-again : goal.returns-in_err-take_folders_off-clause-again
returns-in_err-take_folders_off-clause-again g c = λ told ready.
    let plan = c.args.ready.now in
    let s = g.T.Tree.story c.args.tree.now in
    let t = g.T.Tree.story c.unlink_clears.new.tree in
    let u = g.T.Tree.story c.take_folders_off.new.tree in
    let rules = c.unlink_clears.ensures.rules in
    let cleared = along_last (Clears plan (disk_of s)) s t (c.unlink_clears.ensures.only told) in
    let off = subst (λ (p : Plan). Along (TakesOff p.folders_off (disk_of t)) t u) c.plan.ensures.same (c.take_folders_off.ensures.stops told).along in
    let taken = along_last (TakesOff plan.folders_off (disk_of t)) t u off in
    off_ready plan (disk_of t) (clears_again plan s t ready (c.unlink_clears.ensures.only told)) (disk_of u) taken

pub returns-in_err-take_folders_off-clause-controls : goal.returns-in_err-take_folders_off-clause-controls
returns-in_err-take_folders_off-clause-controls g c = λ told.
    let plan = c.args.ready.now in
    let s = g.T.Tree.story c.args.tree.now in
    let t = g.T.Tree.story c.unlink_clears.new.tree in
    let u = g.T.Tree.story c.take_folders_off.new.tree in
    let rules = c.unlink_clears.ensures.rules in
    let cleared = along_last (Clears plan (disk_of s)) s t (c.unlink_clears.ensures.only told) in
    let off = subst (λ (p : Plan). Along (TakesOff p.folders_off (disk_of t)) t u) c.plan.ensures.same (c.take_folders_off.ensures.stops told).along in
    let taken = along_last (TakesOff plan.folders_off (disk_of t)) t u off in
    controls_trans NoControl (disk_of s) (disk_of t) (disk_of u) (controls_cleared plan rules (disk_of s) (disk_of t) cleared) (controls_off plan rules (disk_of t) (disk_of u) taken)

pub returns-in_err-take_folders_off-clause-manifest : goal.returns-in_err-take_folders_off-clause-manifest
returns-in_err-take_folders_off-clause-manifest g c = λ told is.
    let plan = c.args.ready.now in
    let s = g.T.Tree.story c.args.tree.now in
    let t = g.T.Tree.story c.unlink_clears.new.tree in
    let u = g.T.Tree.story c.take_folders_off.new.tree in
    let rules = c.unlink_clears.ensures.rules in
    let cleared = along_last (Clears plan (disk_of s)) s t (c.unlink_clears.ensures.only told) in
    let off = subst (λ (p : Plan). Along (TakesOff p.folders_off (disk_of t)) t u) c.plan.ensures.same (c.take_folders_off.ensures.stops told).along in
    let taken = along_last (TakesOff plan.folders_off (disk_of t)) t u off in
    manifest_off plan rules (disk_of t) (disk_of u) taken (manifest_cleared plan rules (disk_of s) (disk_of t) cleared is)

pub returns-clause-stops : goal.returns-clause-stops
returns-clause-stops g c = λ told ready.
    let plan = c.args.ready.now in
    let s = g.T.Tree.story c.args.tree.now in
    let t = g.T.Tree.story c.unlink_clears.new.tree in
    let u = g.T.Tree.story c.take_folders_off.new.tree in
    let rules = c.unlink_clears.ensures.rules in
    let cleared = along_last (Clears plan (disk_of s)) s t (c.unlink_clears.ensures.only told) in
    let off = subst (λ (p : Plan). Along (TakesOff p.folders_off (disk_of t)) t u) c.plan.ensures.same (c.take_folders_off.ensures.stops told).along in
    let taken = along_last (TakesOff plan.folders_off (disk_of t)) t u off in
    lead_then s t u (c.unlink_clears.ensures.stops told ready) (off_along plan t u (clears_again plan s t ready (c.unlink_clears.ensures.only told)) off)

pub returns-clause-again : goal.returns-clause-again
returns-clause-again g c = λ told ready.
    let plan = c.args.ready.now in
    let s = g.T.Tree.story c.args.tree.now in
    let t = g.T.Tree.story c.unlink_clears.new.tree in
    let u = g.T.Tree.story c.take_folders_off.new.tree in
    let rules = c.unlink_clears.ensures.rules in
    let cleared = along_last (Clears plan (disk_of s)) s t (c.unlink_clears.ensures.only told) in
    let off = subst (λ (p : Plan). Along (TakesOff p.folders_off (disk_of t)) t u) c.plan.ensures.same (c.take_folders_off.ensures.stops told).along in
    let taken = along_last (TakesOff plan.folders_off (disk_of t)) t u off in
    off_ready plan (disk_of t) (clears_again plan s t ready (c.unlink_clears.ensures.only told)) (disk_of u) taken

pub returns-clause-controls : goal.returns-clause-controls
returns-clause-controls g c = λ told.
    let plan = c.args.ready.now in
    let s = g.T.Tree.story c.args.tree.now in
    let t = g.T.Tree.story c.unlink_clears.new.tree in
    let u = g.T.Tree.story c.take_folders_off.new.tree in
    let rules = c.unlink_clears.ensures.rules in
    let cleared = along_last (Clears plan (disk_of s)) s t (c.unlink_clears.ensures.only told) in
    let off = subst (λ (p : Plan). Along (TakesOff p.folders_off (disk_of t)) t u) c.plan.ensures.same (c.take_folders_off.ensures.stops told).along in
    let taken = along_last (TakesOff plan.folders_off (disk_of t)) t u off in
    controls_trans NoControl (disk_of s) (disk_of t) (disk_of u) (controls_cleared plan rules (disk_of s) (disk_of t) cleared) (controls_off plan rules (disk_of t) (disk_of u) taken)

pub returns-clause-manifest : goal.returns-clause-manifest
returns-clause-manifest g c = λ told is.
    let plan = c.args.ready.now in
    let s = g.T.Tree.story c.args.tree.now in
    let t = g.T.Tree.story c.unlink_clears.new.tree in
    let u = g.T.Tree.story c.take_folders_off.new.tree in
    let rules = c.unlink_clears.ensures.rules in
    let cleared = along_last (Clears plan (disk_of s)) s t (c.unlink_clears.ensures.only told) in
    let off = subst (λ (p : Plan). Along (TakesOff p.folders_off (disk_of t)) t u) c.plan.ensures.same (c.take_folders_off.ensures.stops told).along in
    let taken = along_last (TakesOff plan.folders_off (disk_of t)) t u off in
    manifest_off plan rules (disk_of t) (disk_of u) taken (manifest_cleared plan rules (disk_of s) (disk_of t) cleared is)

pub returns-clause-done : goal.returns-clause-done
returns-clause-done g c = λ told.
    let plan = c.args.ready.now in
    let s = g.T.Tree.story c.args.tree.now in
    let t = g.T.Tree.story c.unlink_clears.new.tree in
    let u = g.T.Tree.story c.take_folders_off.new.tree in
    let rules = c.unlink_clears.ensures.rules in
    let cleared = along_last (Clears plan (disk_of s)) s t (c.unlink_clears.ensures.only told) in
    let off = subst (λ (p : Plan). Along (TakesOff p.folders_off (disk_of t)) t u) c.plan.ensures.same (c.take_folders_off.ensures.stops told).along in
    let taken = along_last (TakesOff plan.folders_off (disk_of t)) t u off in
    clears_after plan (disk_of t) (disk_of u) taken (c.in_ok-unlink_clears.ensures.done told)

pub returns-in_err-unlink_clears-clause-forms : goal.returns-in_err-unlink_clears-clause-forms
returns-in_err-unlink_clears-clause-forms g c = λ told ready. cleared_forms c.args.ready.now c.unlink_clears.ensures.rules (g.T.Tree.story c.args.tree.now) _ ready (c.unlink_clears.ensures.only told)

pub returns-in_err-take_folders_off-clause-forms : goal.returns-in_err-take_folders_off-clause-forms
returns-in_err-take_folders_off-clause-forms g c = λ told ready.
    let plan = c.args.ready.now in
    let s = g.T.Tree.story c.args.tree.now in
    let t = g.T.Tree.story c.unlink_clears.new.tree in
    let u = g.T.Tree.story c.take_folders_off.new.tree in
    let first = cleared_forms plan c.unlink_clears.ensures.rules s t ready (c.unlink_clears.ensures.only told) in
    let off = subst (λ (p : Plan). Along (TakesOff p.folders_off (disk_of t)) t u) c.plan.ensures.same (c.take_folders_off.ensures.stops told).along in
    along_trans (HasForms plan) s t u first (off_forms plan t u (clears_again plan s t ready (c.unlink_clears.ensures.only told)) off)

pub returns-clause-forms : goal.returns-clause-forms
returns-clause-forms g c = λ told ready.
    let plan = c.args.ready.now in
    let s = g.T.Tree.story c.args.tree.now in
    let t = g.T.Tree.story c.unlink_clears.new.tree in
    let u = g.T.Tree.story c.take_folders_off.new.tree in
    let first = cleared_forms plan c.unlink_clears.ensures.rules s t ready (c.unlink_clears.ensures.only told) in
    let off = subst (λ (p : Plan). Along (TakesOff p.folders_off (disk_of t)) t u) c.plan.ensures.same (c.take_folders_off.ensures.stops told).along in
    along_trans (HasForms plan) s t u first (off_forms plan t u (clears_again plan s t ready (c.unlink_clears.ensures.only told)) off)

pub returns-in_err-unlink_clears-clause-unset : goal.returns-in_err-unlink_clears-clause-unset
returns-in_err-unlink_clears-clause-unset g c = λ told ready. clears_unset c.args.ready.now (g.T.Tree.story c.args.tree.now) _ c.unlink_clears.ensures.rules (ready_unset c.args.ready.now (disk_of (g.T.Tree.story c.args.tree.now)) ready) (c.unlink_clears.ensures.only told)

pub returns-in_err-take_folders_off-clause-unset : goal.returns-in_err-take_folders_off-clause-unset
returns-in_err-take_folders_off-clause-unset g c = λ told ready.
    let plan = c.args.ready.now in
    let s = g.T.Tree.story c.args.tree.now in
    let t = g.T.Tree.story c.unlink_clears.new.tree in
    let u = g.T.Tree.story c.take_folders_off.new.tree in
    let off = subst (λ (p : Plan). Along (TakesOff p.folders_off (disk_of t)) t u) c.plan.ensures.same (c.take_folders_off.ensures.stops told).along in
    then_unset plan s t u (clears_unset plan s t c.unlink_clears.ensures.rules (ready_unset plan (disk_of s) ready) (c.unlink_clears.ensures.only told)) (λ unset. off_unset plan t u unset off)

pub returns-clause-unset : goal.returns-clause-unset
returns-clause-unset g c = λ told ready.
    let plan = c.args.ready.now in
    let s = g.T.Tree.story c.args.tree.now in
    let t = g.T.Tree.story c.unlink_clears.new.tree in
    let u = g.T.Tree.story c.take_folders_off.new.tree in
    let off = subst (λ (p : Plan). Along (TakesOff p.folders_off (disk_of t)) t u) c.plan.ensures.same (c.take_folders_off.ensures.stops told).along in
    then_unset plan s t u (clears_unset plan s t c.unlink_clears.ensures.rules (ready_unset plan (disk_of s) ready) (c.unlink_clears.ensures.only told)) (λ unset. off_unset plan t u unset off)
