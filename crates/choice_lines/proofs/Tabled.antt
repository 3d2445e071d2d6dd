-- Actions by the texts of their paths.
use Rattle.std.proofs.Common.{◌≡◌, ℕ, ◌+◌, ◌<◌, ◌≤◌, Bool, true, false, ◌||◌, cond, List, [], ◌∷◌, length, take, take_all, get_or, refl, sym, ap, ◌∙◌, inl, inr}
use Rattle.std.specs.List.{AllByRecursion, list_any}
use Rattle.std.specs.Map.{lookup}
use Rattle.std.specs.Option.{option_or}
use Rattle.std.specs.Str.{bytes_eq}
use Rattle.std.specs.declared.option.Option.{Option}
use Rattle.std.specs.declared.option.Option.TheVariants.{None, Some}
use Rattle.std.proofs.lemmas.List.Folds.{list_any-append}
use Rattle.list_laws.proofs.Containing.{any-from_contains}
use Rattle.list_laws.proofs.Lists.{one_more}
use Rattle.list_laws.proofs.Texts.{bytes_eq-turned, bytes_eq_tells}
use Rattle.change_choices.specs.declared.action.Action.{Action}
use Rattle.change_detect.specs.declared.changes.Change.{Change}
use Rattle.choice_lines.specs.Answers.{Fits}

-- whether one of the changes has the path with this text
abbrev pub is_at_one : List ℕ → List Change → Bool
is_at_one text changes = list_any (λ c. bytes_eq text c.path) changes

or_true : (b : Bool) → (b || true) ≡ true
or_true true = refl
or_true false = refl

or_false : (b : Bool) → (b || false) ≡ b
or_false true = refl
or_false false = refl

or_itself : (any : Bool) (found : Option Action) → option_or found (cond any found None) ≡ found
or_itself true None = refl
or_itself false None = refl
or_itself any (Some a) = refl

module _ (text : List ℕ) (es : List (List ℕ × Action)) where
  -- the actions of the first changes, and of one change more
  pub text_more : (path : List ℕ) (any : Bool) (old new : Option Action) → old ≡ cond any (lookup (bytes_eq text) es) None → new ≡ cond (bytes_eq path text) (option_or (lookup (bytes_eq path) es) old) old → new ≡ cond (any || bytes_eq text path) (lookup (bytes_eq text) es) None
  text_more path any old new was put = elim (bytes_eq_tells path text) [
    | inl same ↦ (let found : lookup (bytes_eq path) es ≡ lookup (bytes_eq text) es = ap (λ t. lookup (bytes_eq t) es) same.1 in
        put ∙ ap (λ b. cond b (option_or (lookup (bytes_eq path) es) old) old) same.0
        ∙ (λ i. option_or (found i) (was i)) ∙ or_itself any (lookup (bytes_eq text) es)
        ∙ sym (ap (λ b. cond b (lookup (bytes_eq text) es) None) (ap (λ b. any || b) (bytes_eq-turned text path ∙ same.0) ∙ or_true any)))
    | inr other ↦ (put ∙ ap (λ b. cond b (option_or (lookup (bytes_eq path) es) old) old) other.0 ∙ was
        ∙ sym (ap (λ b. cond b (lookup (bytes_eq text) es) None) (ap (λ b. any || b) (bytes_eq-turned text path ∙ other.0) ∙ or_false any)))
  ]

  pub texts_more : (changes : List Change) (i : ℕ) (c : Change) (old new : Option Action) → i < length changes → c ≡ get_or changes i c → old ≡ cond (is_at_one text (take i changes)) (lookup (bytes_eq text) es) None → new ≡ cond (bytes_eq c.path text) (option_or (lookup (bytes_eq c.path) es) old) old → new ≡ cond (is_at_one text (take (i + 1) changes)) (lookup (bytes_eq text) es) None
  texts_more changes i c old new low is was put =
      let any : is_at_one text (take (i + 1) changes) ≡ (is_at_one text (take i changes) || bytes_eq text c.path) =
      ap (is_at_one text) (one_more changes i c low is) ∙ list_any-append (λ (d : Change). bytes_eq text d.path) (take i changes) (c ∷ []) ∙ ap (λ b. is_at_one text (take i changes) || b) (or_false (bytes_eq text c.path)) in
      text_more c.path (is_at_one text (take i changes)) old new was put ∙ sym (ap (λ b. cond b (lookup (bytes_eq text) es) None) any)

-- an action that fits a change is for the path of one
at_one : (changes : List Change) (text : List ℕ) (es : List (List ℕ × Action)) (a : Action) → AllByRecursion (Fits changes) es → lookup (bytes_eq text) es ≡ Some a → is_at_one text changes ≡ true
at_one changes text [] a fit found = let no : None ≡ Some a = found in cc
at_one changes text (e ∷ es) a fit found = by (bytes_eq text e.0) refl (at_one changes text es a fit.1)
  where
    by : (b : Bool) → bytes_eq text e.0 ≡ b → (lookup (bytes_eq text) es ≡ Some a → is_at_one text changes ≡ true) → is_at_one text changes ≡ true
    by true is rest = any-from_contains (λ (c : Change). bytes_eq text c.path) changes (record { path = e.0; class = fit.0.class }) is fit.0.change
    by false is rest = rest (sym (ap (λ b. cond b (Some e.1) (lookup (bytes_eq text) es)) is) ∙ found)

pub texts_all : (changes : List Change) (i : ℕ) (text : List ℕ) (es : List (List ℕ × Action)) (found : Option Action) → length changes ≤ i → AllByRecursion (Fits changes) es → found ≡ cond (is_at_one text (take i changes)) (lookup (bytes_eq text) es) None → found ≡ lookup (bytes_eq text) es
texts_all changes i text es found past fit is = is ∙ ap (λ l. cond (is_at_one text l) (lookup (bytes_eq text) es) None) (take_all i changes past) ∙ by (lookup (bytes_eq text) es) refl
  where
    by : (o : Option Action) → lookup (bytes_eq text) es ≡ o → cond (is_at_one text changes) (lookup (bytes_eq text) es) None ≡ lookup (bytes_eq text) es
    by None e = ap (λ o. cond (is_at_one text changes) o None) e ∙ either (is_at_one text changes) ∙ sym e
      where
        either : (b : Bool) → ◌≡◌ {A = Option Action} (cond b None None) None
        either true = refl
        either false = refl
    by (Some a) e = ap (λ b. cond b (lookup (bytes_eq text) es) None) (at_one changes text es a fit e)
