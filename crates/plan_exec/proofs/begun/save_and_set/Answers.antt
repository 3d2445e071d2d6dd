use Rattle.list_laws.proofs.Truths.{if_err-from_same}
use Rattle.tree_fs.specs.Story.{disk_of}
use Rattle.plan_exec.specs.Causes.{IsFault}
use Rattle.plan_exec.proofs.Halves.{saved_only, sets_ready, both_only, both_lead, both_mid, sets_still, done_still}
use Rattle.intent_journal.proofs.Counting.{syncs_trans}
use Rattle.plan_exec.proofs.SavesStand.{saves_rules}
use Rattle.plan_exec.proofs.begun.save_and_set.Goals as goal

pub returns-in_err-do_saves-clause-mid : goal.returns-in_err-do_saves-clause-mid
returns-in_err-do_saves-clause-mid g c = λ told a sound mid. c.do_saves.ensures.mid told a sound mid

pub returns-in_err-do_saves-clause-only : goal.returns-in_err-do_saves-clause-only
returns-in_err-do_saves-clause-only g c = λ told. saved_only _ _ _ (c.do_saves.ensures.only told)

pub returns-in_err-do_sets-clause-stops : goal.returns-in_err-do_sets-clause-stops
returns-in_err-do_sets-clause-stops g c = λ told start made.
    let plan = c.args.ready.now in
    let s = g.T.Tree.story c.args.tree.now in
    let t = g.T.Tree.story c.do_saves.new.tree in
    let u = g.T.Tree.story c.do_sets.new.tree in
    both_lead plan s t u (c.do_saves.ensures.stops told start) (c.do_sets.ensures.stops told (sets_ready plan s t start made (c.do_saves.ensures.only told) (c.in_ok-do_saves.ensures.done told)))

pub returns-in_err-do_sets-clause-mid : goal.returns-in_err-do_sets-clause-mid
returns-in_err-do_sets-clause-mid g c = λ told a sound mid.
    let plan = c.args.ready.now in
    let s = g.T.Tree.story c.args.tree.now in
    let t = g.T.Tree.story c.do_saves.new.tree in
    let u = g.T.Tree.story c.do_sets.new.tree in
    both_mid plan s t u a (c.do_saves.ensures.mid told a sound mid) (c.in_ok-do_saves.ensures.done told) (c.do_sets.ensures.mid told)

pub returns-in_err-do_sets-clause-only : goal.returns-in_err-do_sets-clause-only
returns-in_err-do_sets-clause-only g c = λ told. both_only _ _ _ _ (c.do_saves.ensures.only told) (c.do_sets.ensures.only told)

pub returns-in_err-do_sets-clause-syncs : goal.returns-in_err-do_sets-clause-syncs
returns-in_err-do_sets-clause-syncs g c = λ told saved set saved_are set_are. syncs_trans _ _ _ _ _ (c.do_saves.ensures.syncs told saved saved_are) (c.do_sets.ensures.syncs told set set_are)

pub returns-clause-stops : goal.returns-clause-stops
returns-clause-stops g c = λ told start made.
    let plan = c.args.ready.now in
    let s = g.T.Tree.story c.args.tree.now in
    let t = g.T.Tree.story c.do_saves.new.tree in
    let u = g.T.Tree.story c.do_sets.new.tree in
    both_lead plan s t u (c.do_saves.ensures.stops told start) (c.do_sets.ensures.stops told (sets_ready plan s t start made (c.do_saves.ensures.only told) (c.in_ok-do_saves.ensures.done told)))

pub returns-clause-mid : goal.returns-clause-mid
returns-clause-mid g c = λ told a sound mid.
    let plan = c.args.ready.now in
    let s = g.T.Tree.story c.args.tree.now in
    let t = g.T.Tree.story c.do_saves.new.tree in
    let u = g.T.Tree.story c.do_sets.new.tree in
    both_mid plan s t u a (c.do_saves.ensures.mid told a sound mid) (c.in_ok-do_saves.ensures.done told) (c.do_sets.ensures.mid told)

pub returns-clause-only : goal.returns-clause-only
returns-clause-only g c = λ told. both_only _ _ _ _ (c.do_saves.ensures.only told) (c.do_sets.ensures.only told)

pub returns-clause-syncs : goal.returns-clause-syncs
returns-clause-syncs g c = λ told saved set saved_are set_are. syncs_trans _ _ _ _ _ (c.do_saves.ensures.syncs told saved saved_are) (c.do_sets.ensures.syncs told set set_are)

pub returns-in_err-do_sets-clause-never : goal.returns-in_err-do_sets-clause-never
returns-in_err-do_sets-clause-never g c = λ told start made.
    let plan = c.args.ready.now in
    let s = g.T.Tree.story c.args.tree.now in
    let t = g.T.Tree.story c.do_saves.new.tree in
    let u = g.T.Tree.story c.do_sets.new.tree in
    let e = c.in_err-do_sets.field-0.0 in
    if_err-from_same IsFault c.from_residual-in_err-do_sets.result e c.from_residual-in_err-do_sets.ensures.1 (c.in_err-do_sets.ensures.never told (sets_ready plan s t start made (c.do_saves.ensures.only told) (c.in_ok-do_saves.ensures.done told)))

pub returns-clause-ready : goal.returns-clause-ready
returns-clause-ready g c = λ told start made.
    let plan = c.args.ready.now in
    let s = g.T.Tree.story c.args.tree.now in
    let t = g.T.Tree.story c.do_saves.new.tree in
    let u = g.T.Tree.story c.do_sets.new.tree in
    sets_still plan t u (sets_ready plan s t start made (c.do_saves.ensures.only told) (c.in_ok-do_saves.ensures.done told)) (c.do_sets.ensures.only told)

pub returns-clause-done : goal.returns-clause-done
returns-clause-done g c = λ told start made.
    let plan = c.args.ready.now in
    let s = g.T.Tree.story c.args.tree.now in
    let t = g.T.Tree.story c.do_saves.new.tree in
    let u = g.T.Tree.story c.do_sets.new.tree in
    done_still plan t u (saves_rules plan (disk_of s) start) (c.do_sets.ensures.only told) (c.in_ok-do_sets.ensures.done told)
