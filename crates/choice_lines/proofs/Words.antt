-- The words of actions.
use Rattle.std.proofs.Common.{◌≡◌, ℕ, Bool, true, false, cond, List, refl, sym, ap, ◌∙◌}
use Rattle.std.specs.Str.{bytes_eq}
use Rattle.std.specs.declared.option.Option.{Option}
use Rattle.std.specs.declared.option.Option.TheVariants.{None, Some}
use Rattle.std.proofs.lemmas.Slice.Eq.{bytes_eq-Decides}
use Rattle.change_choices.specs.declared.action.Action.{Action}
use Rattle.change_choices.specs.declared.action.Action.TheVariants.{Aside, Import, Revert, Keep, Restore, Drop}
use Rattle.change_choices.specs.Words.{action_word, action_named}
use Rattle.choice_lines.proofs.Tabs.{has_tab}

pub word-no_tab : (a : Action) → has_tab (action_word a) ≡ false
word-no_tab Aside = refl
word-no_tab Import = refl
word-no_tab Revert = refl
word-no_tab Keep = refl
word-no_tab Restore = refl
word-no_tab Drop = refl

pub named-word : (a : Action) → action_named (action_word a) ≡ Some a
named-word Aside = refl
named-word Import = refl
named-word Revert = refl
named-word Keep = refl
named-word Restore = refl
named-word Drop = refl

pub one_word : (a b : Action) → action_word a ≡ action_word b → a ≡ b
one_word a b e = let same : Some a ≡ Some b = sym (named-word a) ∙ ap action_named e ∙ named-word b in cc

-- the word of the action that is named first, or that of the others
by_first : (word : List ℕ) (first : Action) (rest : Option Action) (a : Action) → cond (bytes_eq word (action_word first)) (Some first) rest ≡ Some a → (rest ≡ Some a → word ≡ action_word a) → word ≡ action_word a
by_first word first rest a e more = by (bytes_eq word (action_word first)) refl e
  where
    by : (t : Bool) → bytes_eq word (action_word first) ≡ t → cond t (Some first) rest ≡ Some a → word ≡ action_word a
    by true is e = let same : first ≡ a = cc in (bytes_eq-Decides word (action_word first)).0 is ∙ ap action_word same
    by false is e = more e

pub word-named : (word : List ℕ) (a : Action) → action_named word ≡ Some a → word ≡ action_word a
word-named word a e =
    by_first word Aside _ a e (λ e. by_first word Import _ a e (λ e. by_first word Revert _ a e (λ e. by_first word Keep _ a e (λ e. by_first word Restore _ a e (λ e. by_first word Drop None a e (λ e. let no : None ≡ Some a = e in cc))))))
