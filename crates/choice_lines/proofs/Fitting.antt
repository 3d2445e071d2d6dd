-- What a line says, and whether it fits a change.
use Rattle.std.proofs.Common.{◌≡◌, ℕ, false, true≢false, List, ◌∷◌, ◌++◌, refl, sym, ap, ◌∙◌, subst}
use Rattle.std.specs.List.{Contains}
use Rattle.std.specs.declared.option.Option.TheVariants.{None, Some}
use Rattle.std.specs.Str.Pattern.{RFindsChar}
use Rattle.change_choices.specs.declared.action.Action.{Action}
use Rattle.change_choices.specs.Allowed.{is_allowed}
use Rattle.change_choices.specs.Words.{action_word, action_named}
use Rattle.change_detect.specs.declared.changes.Change.{Change}
use Rattle.choice_lines.specs.Answers.{answer_line, Fits}
use Rattle.choice_lines.proofs.Tabs.{has_tab, tabless, tab_in, one_part, IsParted}
use Rattle.choice_lines.proofs.Words.{word-no_tab, named-word, word-named, one_word}

-- a line says one thing
pub one_answer : (a b : List ℕ × Action) → answer_line a ≡ answer_line b → a ≡ b
one_answer a b e =
    let parts = one_part a.0 b.0 (action_word a.1) (action_word b.1) e (word-no_tab a.1) (word-no_tab b.1) in
    λ i. (parts.0 i, one_word a.1 b.1 parts.1 i)

-- a line without a tab says nothing
pub no_tab : (line : List ℕ) → RFindsChar 9 line None → (answer : List ℕ × Action) → line ≡ answer_line answer → ⊥
no_tab line h answer is = true≢false (sym (tab_in answer.0 (action_word answer.1)) ∙ ap has_tab (sym is) ∙ tabless line h)

module _ (line front back : List ℕ) (cut : IsParted line front back) where
  pub says : (answer : List ℕ × Action) → line ≡ answer_line answer → (front ≡ answer.0) × (back ≡ action_word answer.1)
  says answer is = one_part front answer.0 back (action_word answer.1) (sym cut.whole ∙ is) cut.last (word-no_tab answer.1)

  pub said_here : (path : List ℕ) (action : Action) → path ≡ front → action_named back ≡ Some action → line ≡ answer_line (path, action)
  said_here path action same named = cut.whole ∙ (λ i. sym same i ++ 9 ∷ word-named back action named i)

  -- what stands behind the tab is no action's word
  pub no_word : action_named back ≡ None → (answer : List ℕ × Action) → line ≡ answer_line answer → ⊥
  no_word none answer is = let e : Some answer.1 ≡ None = sym (named-word answer.1) ∙ ap action_named (sym (says answer is).1) ∙ none in cc

  module _ (changes : List Change) where
    -- the change that an answer fits is at the path in front of the tab
    here : (answer : List ℕ × Action) → line ≡ answer_line answer → (fits : Fits changes answer) → Contains changes (record { path = front; class = fits.class })
    here answer is fits = subst (λ p. Contains changes (record { path = p; class = fits.class })) (sym (says answer is).0) fits.change

    -- no change is at the path
    pub no_change : ((c : Change) → Contains changes c → c.path ≡ front → ⊥) → (answer : List ℕ × Action) → line ≡ answer_line answer → Fits changes answer → ⊥
    no_change none answer is fits = none (record { path = front; class = fits.class }) (here answer is fits) refl

    -- the action isn't allowed for the one change at the path
    pub not_allowed : (change : Change) (action : Action) → action_named back ≡ Some action → ((c : Change) → Contains changes c → c.path ≡ front → change ≡ c) → is_allowed change.class action ≡ false → (answer : List ℕ × Action) → line ≡ answer_line answer → Fits changes answer → ⊥
    not_allowed change action named alone off answer is fits =
        let one : change ≡ record { path = front; class = fits.class } = alone (record { path = front; class = fits.class }) (here answer is fits) refl in
        let act : Some action ≡ Some answer.1 = sym named ∙ ap action_named (says answer is).1 ∙ named-word answer.1 in
        let same : action ≡ answer.1 = cc in
        true≢false (sym fits.allowed ∙ (λ i. is_allowed (ap (λ (c : Change). c.class) (sym one) i) (sym same i)) ∙ off)
