-- A settlement by the lines of an input, from its steps to what it answers.
use Rattle.std.proofs.Common.{◌≡◌, ◌≢◌, ℕ, List, [], ◌∷◌, ◌++◌, refl, ap, ◌∙◌, subst}
use Rattle.std.specs.Str.Lines.{lines}
use Rattle.std.specs.declared.option.Option.TheVariants.{None, Some}
use Rattle.std.specs.declared.result.Result.{Result}
use Rattle.std.specs.declared.result.Result.TheVariants.{Err}
use Rattle.io_edge.specs.declared.lines.LineError.{LineError}
use Rattle.io_edge.specs.declared.lines.LineError.TheVariants as line
use Rattle.tree_fs.specs.Story.{Story, Along, disk_of}
use Rattle.change_choices.specs.declared.action.Action.{Action}
use Rattle.change_choices.specs.declared.choices.Choices.{Choices}
use Rattle.choice_lines.specs.declared.error.InputError.{InputError}
use Rattle.choice_lines.specs.declared.error.InputError.TheVariants.{Unread}
use Rattle.choice_lines.specs.Answers.{AreAnswers, AreRead}
use Rattle.choice_lines.specs.Refusals.{IsFirstRefused}
use Rattle.desk_model.specs.Standing.{Standing}
use Rattle.intent_journal.specs.Sweeps.{Sweeps}
use Rattle.plan_run.specs.Quiet.{IsQuiet}
use Rattle.answer_lines.specs.declared.refusal.InputRefusal.{InputRefusal}
use Rattle.answer_lines.specs.declared.refusal.InputRefusal.TheVariants.{TooManyLines, LineTooLong, BadLine}
use Rattle.answer_lines.specs.declared.refusal.Refusal.TheVariants as group
use Rattle.command_steps.specs.declared.limits.Limits.{Limits}
use Rattle.command_steps.specs.declared.stop.Stop.{Stop}
use Rattle.command_steps.specs.declared.stop.Stop.TheVariants as stop
use Rattle.command_steps.specs.Inputs.{answers_in, input_refusal}
use Rattle.command_steps.specs.Steps.{answers}
use Rattle.command_steps.specs.Orders.{IsWhy, Passed}
use Rattle.command_steps.proofs.Answering.{answers_why, answers_pass}
use Rattle.command_steps.proofs.Orders.{and_then, stops_at, stops_later}
use Rattle.deploy_engine.specs.declared.answer.Answer.{Answer}
use Rattle.deploy_engine.specs.declared.answer.Answer.TheVariants.{Ok, Refused, RecoverFirst}
use Rattle.deploy_engine.specs.declared.commands.Report.{Report}
use Rattle.deploy_engine.specs.declared.commands.settle.Found.{Found}
use Rattle.deploy_engine.specs.Carried.{Carried}
use Rattle.deploy_engine.specs.SettleWork.{with_paths, up_to_changes, settling, answered_work, AreFound, Begins}
use Rattle.deploy_engine.specs.Answers.{IsSaid, IsWritten, Ends}
use Rattle.deploy_engine.specs.Batches.{IsUnread, IsBadInput}
use Rattle.deploy_engine.proofs.Carrying.{turned}

module _ (choices : Choices) (limits : Limits) (input : List ℕ) (old mid : Story) (swept : Along (Sweeps (disk_of old)) old mid) where
  -- it stopped before it read its input
  pub turned_before : (e : Stop) → IsWhy up_to_changes limits old e mid → Carried (answered_work input choices) limits old mid (Err e)
  turned_before e why = turned (λ no. no) (stops_at _ why) swept

  module _ (found : Found) (passed : Passed up_to_changes limits old mid (AreFound (disk_of mid)) found) where
    -- a line is no answer
    pub turned_by : (e : InputError) (refusal : InputRefusal) → IsFirstRefused found.changes.items input e → input_refusal e ≡ Some refusal → Carried (answered_work input choices) limits old mid (Err (stop.Refused (group.Input refusal)))
    turned_by e refusal first is =
        let why = answers_why limits mid input found.changes.items passed.gives.changes e refusal first is in
        turned (λ no. no) (stops_at _ (stops_later passed why)) swept

    module _ (said : List (List ℕ × Action)) (read : AreRead 0 input (lines input) []) (says : AreAnswers found.changes.items (lines input) said) where
      answered : Passed (answers input ∷ []) limits mid mid (λ l. l ≡ answers_in input) said
      answered = answers_pass limits mid input found.changes.items passed.gives.changes said read says

      begins : (Standing (disk_of old) → IsQuiet (disk_of mid)) → Begins (up_to_changes ++ answers input ∷ []) limits old mid
      begins quiet =
          let all = and_then passed answered in
          record { all = all.all; story = all.story; swept = swept; quiet = quiet }

      -- the choices have the answers of the input
      by_answers : (now : Choices) (new : Story) (came : Result Report Stop) → now ≡ with_paths choices said → Carried (settling (up_to_changes ++ answers input ∷ []) now) limits old new came → Carried (answered_work input choices) limits old new came
      by_answers now new came is carried =
          subst (λ k. Carried (settling (up_to_changes ++ answers input ∷ []) k) limits old new came) (is ∙ ap (with_paths choices) answered.gives) carried

      pub carried_by : (Standing (disk_of old) → IsQuiet (disk_of mid)) → (now : Choices) (new : Story) (came : Result Report Stop) → now ≡ with_paths choices said → (Begins (up_to_changes ++ answers input ∷ []) limits old mid → Carried (settling (up_to_changes ++ answers input ∷ []) now) limits old new came) → Carried (answered_work input choices) limits old new came
      carried_by quiet now new came is carries = by_answers now new came is (carries (begins quiet))

-- a stop is no Ok
pub stop_not_ok : (e : Stop) (tells : Type 0) (before now : List ℕ) (answer : Answer) → Ends (IsSaid (Err e)) tells before now answer → answer ≡ Ok → ⊥
stop_not_ok e tells before now answer ends is =
    let whole : IsWritten (IsSaid (Err e)) tells before now Ok = subst (Ends (IsSaid (Err e)) tells before now) is ends in
    by e whole.text whole.claim
  where
    by : (e : Stop) (text : List ℕ) → IsSaid (Err e) Ok text → ⊥
    by (stop.Refused refusal) text said = let no : Ok ≡ Refused refusal = said.0 in cc
    by stop.RecoverFirst text said = let no : Ok ≡ RecoverFirst = said.0 in cc
    by stop.TreeFault text said = said
    by stop.Memory text said = said

-- nor is an input that is no list of answers
pub bad_not_ok : (e : InputError) (tells : Type 0) (before now : List ℕ) (answer : Answer) → Ends (IsBadInput e) tells before now answer → answer ≡ Ok → ⊥
bad_not_ok e tells before now answer ends is = let no : Ok ≡ Refused (group.Input (subst (Ends (IsBadInput e) tells before now) is ends).claim.0) = (subst (Ends (IsBadInput e) tells before now) is ends).claim.2.0 in cc

-- what refuses isn't a failed read, nor want of memory
pub not_failed : (e : InputError) (refusal : InputRefusal) → input_refusal e ≡ Some refusal → e ≢ Unread line.Failed
not_failed e refusal is failed = let no : None ≡ Some refusal = subst (λ x. input_refusal x ≡ Some refusal) failed is in cc

pub not_memory : (e : InputError) (refusal : InputRefusal) → input_refusal e ≡ Some refusal → e ≢ Unread line.Memory
not_memory e refusal is memory = let no : None ≡ Some refusal = subst (λ x. input_refusal x ≡ Some refusal) memory is in cc

-- a line that can't be read is no answer
pub unread_is_bad : (e : LineError) (answer : Answer) (text : List ℕ) → IsUnread e answer text → IsBadInput (Unread e) answer text
unread_is_bad line.TooMany answer text is = (TooManyLines, refl, is)
unread_is_bad (line.TooLong n) answer text is = (LineTooLong n, refl, is)
unread_is_bad (line.NotText n) answer text is = (BadLine n, refl, is)
unread_is_bad line.Failed answer text is = absurd is
unread_is_bad line.Memory answer text is = absurd is
