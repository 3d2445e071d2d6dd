use Rattle.std.proofs.Common.{sym, subst}
use Rattle.list_laws.proofs.Truths.{if_err-from_same}
use Rattle.tree_fs.specs.Story.{Story, disk_of}
use Rattle.tree_fs.proofs.Moments.{along_from}
use Rattle.desk_model.specs.Standing.{Invariant}
use Rattle.intent_journal.specs.Found.{IsFound}
use Rattle.recover_run.specs.Causes.{IsFault, of_intent}
use Rattle.recover_run.specs.Recovery.{IsReason, IsSwept}
use Rattle.recover_run.proofs.Behind.{still_leads, none_end}
use Rattle.recover_run.proofs.Found.{known_intent, fault_of_intent, reason_of_intent, reason_stuck}
use Rattle.recover_run.proofs.whole.go_on.Goals as goal

pub returns-in_err-found-clause-stops : goal.returns-in_err-found-clause-stops
returns-in_err-found-clause-stops g c = λ told swept. still_leads (g.T.Tree.story c.args.tree.now) swept _ (c.find_intent.ensures.same told)

pub returns-in_err-found-clause-never : goal.returns-in_err-found-clause-never
returns-in_err-found-clause-never g c = λ told swept.
    let e = c.in_err-found.field-0.0 in
    if_err-from_same IsFault c.from_residual.result (of_intent e) c.from_residual.ensures.1
    (fault_of_intent e (λ is. known_intent (disk_of (g.T.Tree.story c.args.tree.now)) swept.standing (c.in_err-found.ensures.bad told is)))

pub returns-in-None-clause-stops : goal.returns-in-None-clause-stops
returns-in-None-clause-stops g c = λ told swept. still_leads (g.T.Tree.story c.args.tree.now) swept _ (c.find_intent.ensures.same told)

pub returns-in-None-clause-done : goal.returns-in-None-clause-done
returns-in-None-clause-done g c = λ told swept.
    let s = g.T.Tree.story c.args.tree.now in
    none_end s swept _ (c.find_intent.ensures.same told) (subst (IsFound (disk_of s)) c.in-None.is (c.in_ok-found.ensures.found told))

pub returns-in-Some-clause-keeps : goal.returns-in-Some-clause-keeps
returns-in-Some-clause-keeps g c = λ told swept inv.
    let s = g.T.Tree.story c.args.tree.now in
    let t = g.T.Tree.story c.find_intent.new.tree in
    let u = g.T.Tree.story c.resume.new.tree in
    let same = c.find_intent.ensures.same told in
    let still = subst (λ (q : Story). IsSwept (disk_of q)) (sym same) swept in
    along_from Invariant s t u (sym same) (c.resume.ensures.keeps told still)

pub returns-in_err-found-clause-errors : goal.returns-in_err-found-clause-errors
returns-in_err-found-clause-errors g c = λ told.
    let e = c.in_err-found.field-0.0 in
    let d = disk_of (g.T.Tree.story c.args.tree.now) in
    if_err-from_same (IsReason d) c.from_residual.result (of_intent e) c.from_residual.ensures.1 (reason_of_intent d e (c.in_err-found.ensures.bad told))

pub returns-in-Some-clause-errors : goal.returns-in-Some-clause-errors
returns-in-Some-clause-errors g c = λ told.
    let d = disk_of (g.T.Tree.story c.args.tree.now) in
    reason_stuck d c.in-Some.intent (subst (IsFound d) c.in-Some.is (c.in_ok-found.ensures.found told)) c.resume.result c.resume.ensures.bad
