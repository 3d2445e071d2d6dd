-- What lines say, read off the lines alone.
use Rattle.std.proofs.Common.{◌≡◌, ◌==◌, ℕ, Bool, true, false, true≢false, cond, List, [], ◌∷◌, ◌++◌, map, refl, sym, ap, ◌∙◌}
use Rattle.std.specs.Prelude.{option_map, option_to_list}
use Rattle.std.specs.Option.{option_or}
use Rattle.std.specs.declared.option.Option.{Option}
use Rattle.std.specs.declared.option.Option.TheVariants.{None, Some}
use Rattle.change_choices.specs.declared.action.Action.{Action}
use Rattle.change_choices.specs.Words.{action_word, action_named}
use Rattle.change_detect.specs.declared.changes.Change.{Change}
use Rattle.choice_lines.specs.Answers.{answer_line, answer_in, answers_of, spoken, AreAnswers}
use Rattle.choice_lines.proofs.Tabs.{has_tab, tab_in}
use Rattle.choice_lines.proofs.Words.{word-no_tab, named-word, word-named}

-- no action's word has a tab
tab_no_word : (text : List ℕ) → has_tab text ≡ true → action_named text ≡ None
tab_no_word text tab = by (action_named text) refl
  where
    by : (o : Option Action) → action_named text ≡ o → action_named text ≡ None
    by None is = is
    by (Some a) is = absurd (true≢false (sym tab ∙ ap has_tab (word-named text a is) ∙ word-no_tab a))

abbrev in_front : ℕ → Option (List ℕ × Action) → Option (List ℕ × Action)
in_front b found = option_map (λ answer. (b ∷ answer.0, answer.1)) found

abbrev alone : Option Action → Option (List ℕ × Action)
alone found = option_map (λ action. ([], action)) found

none_here : (t : Bool) (found : Option Action) (rest : Option (List ℕ × Action)) → found ≡ None → option_or (cond t (alone found) None) rest ≡ rest
none_here true found rest none = ap (λ o. option_or (alone o) rest) none
none_here false found rest none = refl

pub answer-said : (path : List ℕ) (action : Action) → answer_in (answer_line (path, action)) ≡ Some (path, action)
answer-said [] action = ap (λ o. option_or (alone o) (in_front 9 (answer_in (action_word action)))) (named-word action)
answer-said (b ∷ path) action =
    let rest = path ++ 9 ∷ action_word action in
    none_here (b == 9) (action_named rest) (in_front b (answer_in rest)) (tab_no_word rest (tab_in path (action_word action)))
    ∙ ap (in_front b) (answer-said path action)

answers-spoken : (texts : List (List ℕ)) → answers_of texts ≡ answers_of (spoken texts)
answers-spoken [] = refl
answers-spoken ([] ∷ texts) = answers-spoken texts
answers-spoken ((b ∷ bs) ∷ texts) = ap (λ l. option_to_list (answer_in (b ∷ bs)) ++ l) (answers-spoken texts)

answers-lines : (answers : List (List ℕ × Action)) → answers_of (map answer_line answers) ≡ answers
answers-lines [] = refl
answers-lines (a ∷ answers) = λ i. option_to_list (answer-said a.0 a.1 i) ++ answers-lines answers i

-- lines say the answers that are read of them
pub answers_said : (changes : List Change) (texts : List (List ℕ)) (answers : List (List ℕ × Action)) → AreAnswers changes texts answers → answers ≡ answers_of texts
answers_said changes texts answers are = sym (answers-spoken texts ∙ ap answers_of are.said ∙ answers-lines answers)
