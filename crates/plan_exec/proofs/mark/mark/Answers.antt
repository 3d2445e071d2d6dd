use Rattle.plan_exec.proofs.OneList.{marked_forms}
use Rattle.tree_fs.specs.Story.{disk_of}
use Rattle.std.specs.declared.option.Option.TheVariants.{Some}
use Rattle.intent_json.specs.Forms.{set_form}
use Rattle.intent_json.proofs.Bare.{bare_passes}
use Rattle.plan_exec.proofs.Marking.{both_forms, holds_set, mark_stops, mark_on_ok}
use Rattle.plan_exec.proofs.SetsStand.{sets_rules}
use Rattle.plan_exec.proofs.mark.mark.Goals as goal

pub returns-clause-stops : goal.returns-clause-stops
returns-clause-stops g c = λ told ready done.
    let plan = c.args.ready.now in
    let s = g.T.Tree.story c.args.tree.now in
    let rules = bare_passes plan (sets_rules plan (disk_of s) ready) in
    mark_stops plan s _ ready done rules (c.mark_clear.ensures.leads told (Some (set_form plan)) (holds_set plan (disk_of s) ready done) (both_forms plan (disk_of s) ready done rules))

pub returns-clause-done : goal.returns-clause-done
returns-clause-done g c = λ told ready done.
    let plan = c.args.ready.now in
    let s = g.T.Tree.story c.args.tree.now in
    let rules = bare_passes plan (sets_rules plan (disk_of s) ready) in
    mark_on_ok _ plan s _ ready done rules (c.mark_clear.ensures.leads told (Some (set_form plan)) (holds_set plan (disk_of s) ready done) (both_forms plan (disk_of s) ready done rules)) _ (c.mark_clear.ensures.done told) (c.mark_clear.ensures.holds told)

pub returns-clause-forms : goal.returns-clause-forms
returns-clause-forms g c = λ told ready done.
    let plan = c.args.ready.now in
    let s = g.T.Tree.story c.args.tree.now in
    marked_forms plan s _ (c.mark_clear.ensures.stops told (Some (set_form plan)) ready.standing.firm (holds_set plan (disk_of s) ready done))
