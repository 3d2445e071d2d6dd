use Rattle.std.proofs.Common.{◌≡◌, ◌++◌, [], ◌∷◌, sym, subst, inl, inr}
use Rattle.std.specs.Str.Lines.{lines}
use Rattle.std.specs.declared.result.Result.TheVariants.{Err}
use Rattle.fault_count.specs.Rose.{Rose}
use Rattle.manifest_json.specs.Paths.{AreRising}
use Rattle.change_detect.specs.Changes.{change_paths}
use Rattle.choice_lines.specs.Answers.{AreAnswers}
use Rattle.choice_lines.specs.Refusals.{IsFirstRefused}
use Rattle.answer_lines.specs.declared.refusal.Refusal.TheVariants as group
use Rattle.command_steps.specs.declared.stop.Stop.TheVariants as stop
use Rattle.command_steps.specs.Steps.{answers}
use Rattle.deploy_engine.specs.Answers.{IsSaid, Says}
use Rattle.deploy_engine.specs.Batches.{IsBadInput}
use Rattle.deploy_engine.specs.SettleWork.{up_to_changes, answered_work}
use Rattle.deploy_engine.proofs.Answered.{turned_before, turned_by, carried_by, stop_not_ok, bad_not_ok, not_failed, not_memory}
use Rattle.deploy_engine.proofs.Batching.{none_of_source}
use Rattle.deploy_engine.proofs.Telling.{ends_weaken, says_of}
use Rattle.deploy_engine.proofs.by_input.settle_by_input.Goals as goal

-- what was found can't be told: the steps stopped
pub returns-in-Err-clause-ends : goal.returns-in-Err-clause-ends
returns-in-Err-clause-ends g c =
    let told = g.T.Tree.tells × g.S.Source.tells in
    let limits = c.args.limits.now in
    let input = g.S.Source.left c.args.source.now in
    let old = g.T.Tree.story c.args.tree.now in
    let mid = g.T.Tree.story c.find_changes.new.tree in
    ends_weaken (IsSaid (Err c.in-Err.stop)) (Says told (answered_work input c.args.choices) limits old mid) _ _ _
    (says_of told (answered_work input c.args.choices) limits old mid (Err c.in-Err.stop) (λ t. turned_before c.args.choices limits input old mid (c.find_changes.ensures.stops t.0) c.in-Err.stop (c.in-Err.ensures.takes t.0).stopped)) _ c.tell-in-Err.ensures.ends

pub returns-in-Err-clause-stops : goal.returns-in-Err-clause-stops
returns-in-Err-clause-stops g c = λ t s. inr (inl (c.find_changes.ensures.stops t))

pub returns-in-Err-clause-input : goal.returns-in-Err-clause-input
returns-in-Err-clause-input g c = record {
  ended = λ r is. absurd (stop_not_ok c.in-Err.stop _ _ _ _ c.tell-in-Err.ensures.ends is);
  unread = λ t r some. inr (c.find_changes.ensures.stops t);
  failed = λ t is. inr (c.find_changes.ensures.stops t);
}

pub read_choices-requires : goal.read_choices-requires
read_choices-requires g c = subst (λ l. AreRising (change_paths l)) (sym c.as_slice.ensures.value) c.in-Ok.ensures.order

-- the input is read, and its answers are settled
pub returns-in-Ok-read_choices-clause-ends : goal.returns-in-Ok-read_choices-clause-ends
returns-in-Ok-read_choices-clause-ends g c =
    let told = g.T.Tree.tells × g.S.Source.tells in
    let limits = c.args.limits.now in
    let input = g.S.Source.left c.args.source.now in
    let work = answered_work input c.args.choices in
    let old = g.T.Tree.story c.args.tree.now in
    let mid = g.T.Tree.story c.find_changes.new.tree in
    let new = g.T.Tree.story c.settle_found-came.new.tree in
    let came = c.settle_found-came.result in
    let paths = c.in-Ok-read_choices.paths in
    ends_weaken (IsSaid came) (Says told work limits old new) _ _ _
    (says_of told work limits old new came (λ t.
    carried_by c.args.choices limits input old mid (c.find_changes.ensures.stops t.0) c.in-Ok.found (c.in-Ok.ensures.takes t.0).passed paths (c.in-Ok-read_choices.ensures.read t.1)
    (subst (λ l. AreAnswers l (lines input) paths) c.as_slice.ensures.value (c.in-Ok-read_choices.ensures.answers t.1)) (c.in-Ok.ensures.quiet t.0) c.choices_with-choices.result new came c.choices_with-choices.ensures
    (c.settle_found-came.ensures.carried t.0 (up_to_changes ++ answers input ∷ []) old))) _ c.tell.ensures.ends

pub returns-in-Ok-read_choices-clause-stops : goal.returns-in-Ok-read_choices-clause-stops
returns-in-Ok-read_choices-clause-stops g c = λ t s.
    let input = g.S.Source.left c.args.source.now in
    let old = g.T.Tree.story c.args.tree.now in
    let mid = g.T.Tree.story c.find_changes.new.tree in
    let new = g.T.Tree.story c.settle_found-came.new.tree in
    let paths = c.in-Ok-read_choices.paths in
    let carried = carried_by c.args.choices c.args.limits.now input old mid (c.find_changes.ensures.stops t) c.in-Ok.found (c.in-Ok.ensures.takes t).passed paths (c.in-Ok-read_choices.ensures.read s)
    (subst (λ l. AreAnswers l (lines input) paths) c.as_slice.ensures.value (c.in-Ok-read_choices.ensures.answers s)) (c.in-Ok.ensures.quiet t) c.choices_with-choices.result new c.settle_found-came.result c.choices_with-choices.ensures
    (c.settle_found-came.ensures.carried t (up_to_changes ++ answers input ∷ []) old) in
    carried.moves

pub returns-in-Ok-read_choices-clause-input : goal.returns-in-Ok-read_choices-clause-input
returns-in-Ok-read_choices-clause-input g c =
    let blamed = none_of_source (c.settle_found-came.result ≡ Err stop.TreeFault) (Rose (g.K.Sink.faults c.args.sink.now) (g.K.Sink.faults c.tell.new.sink)) c.tell.result c.tell.ensures.causes in
    record {
      ended = λ r is. c.in-Ok-read_choices.ensures.end r;
      unread = λ t r some. absurd (some (c.in-Ok-read_choices.ensures.end r));
      failed = λ t is. absurd (blamed is);
    }

-- a line is no answer
pub returns-in-Err-read_choices-clause-ends : goal.returns-in-Err-read_choices-clause-ends
returns-in-Err-read_choices-clause-ends g c =
    let told = g.T.Tree.tells × g.S.Source.tells in
    let limits = c.args.limits.now in
    let input = g.S.Source.left c.args.source.now in
    let work = answered_work input c.args.choices in
    let old = g.T.Tree.story c.args.tree.now in
    let mid = g.T.Tree.story c.find_changes.new.tree in
    let e = c.in-Err-read_choices.error in
    ends_weaken (IsBadInput e) (Says told work limits old mid) _ _ _
    (λ answer text bad. says_of told work limits old mid (Err (stop.Refused (group.Input bad.0))) (λ t.
    turned_by c.args.choices limits input old mid (c.find_changes.ensures.stops t.0) c.in-Ok.found (c.in-Ok.ensures.takes t.0).passed e bad.0
    (subst (λ l. IsFirstRefused l input e) c.as_slice.ensures.value (c.in-Err-read_choices.ensures.refused t.1 (not_failed e bad.0 bad.1) (not_memory e bad.0 bad.1))) bad.1) answer text bad.2) _ c.tell_bad_input.ensures.ends

pub returns-in-Err-read_choices-clause-stops : goal.returns-in-Err-read_choices-clause-stops
returns-in-Err-read_choices-clause-stops g c = λ t s. inr (inl (c.find_changes.ensures.stops t))

pub returns-in-Err-read_choices-clause-input : goal.returns-in-Err-read_choices-clause-input
returns-in-Err-read_choices-clause-input g c = record {
  ended = λ r is. absurd (bad_not_ok c.in-Err-read_choices.error _ _ _ _ c.tell_bad_input.ensures.ends is);
  unread = λ t r some. inr (c.find_changes.ensures.stops t);
  failed = λ t is. inr (c.find_changes.ensures.stops t);
}
