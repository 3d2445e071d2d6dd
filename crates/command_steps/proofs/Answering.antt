-- The answers of an input, as a step.
use Rattle.std.proofs.Common.{◌≡◌, ℕ, List, [], ◌∷◌, refl, subst, inl, inr}
use Rattle.std.specs.Str.Lines.{lines}
use Rattle.std.specs.declared.option.Option.TheVariants.{Some}
use Rattle.tree_fs.specs.Story.{Story, disk_of}
use Rattle.change_choices.specs.declared.action.Action.{Action}
use Rattle.change_detect.specs.declared.changes.Change.{Change}
use Rattle.choice_lines.specs.declared.error.InputError.{InputError}
use Rattle.choice_lines.specs.Answers.{AreAnswers, AreRead}
use Rattle.choice_lines.specs.Refusals.{IsFirstRefused}
use Rattle.choice_lines.proofs.Said.{answers_said}
use Rattle.answer_lines.specs.declared.refusal.InputRefusal.{InputRefusal}
use Rattle.answer_lines.specs.declared.refusal.Refusal.TheVariants as group
use Rattle.command_steps.specs.declared.limits.Limits.{Limits}
use Rattle.command_steps.specs.declared.stop.Stop.TheVariants.{Refused}
use Rattle.command_steps.specs.Inputs.{changes_on, answers_in, input_refusal}
use Rattle.command_steps.specs.Steps.{answers}
use Rattle.command_steps.specs.Orders.{IsWhy, Passed}

module _ (limits : Limits) (s : Story) (bytes : List ℕ) (changes : List Change) (are : changes ≡ changes_on (disk_of s)) where
  pub answers_why : (error : InputError) (refusal : InputRefusal) → IsFirstRefused changes bytes error → input_refusal error ≡ Some refusal → IsWhy (answers bytes ∷ []) limits s (Refused (group.Input refusal)) s
  answers_why error refusal first is = record {
    why = inr (inl ((refusal, record { error = error; first = subst (λ l. IsFirstRefused l bytes error) are first; is = is }, refl), refl));
  }

  pub answers_pass : (said : List (List ℕ × Action)) → AreRead 0 bytes (lines bytes) [] → AreAnswers changes (lines bytes) said → Passed (answers bytes ∷ []) limits s s (λ l. l ≡ answers_in bytes) said
  answers_pass said read says =
      let is : said ≡ answers_in bytes = answers_said changes (lines bytes) said says in
      record {
        all = (record { read = read; answers = subst (λ l. AreAnswers l (lines bytes) (answers_in bytes)) are (subst (AreAnswers changes (lines bytes)) is says) }, tt);
        story = refl;
        gives = is;
      }
