-- What one line more says.
use Rattle.std.proofs.Common.{◌≡◌, ◌≢◌, ℕ, true, false, List, [], ◌∷◌, ◌++◌, map, is_some, refl, sym, ap, ◌∙◌, subst, append-nil}
use Rattle.std.specs.List.{AllByRecursion, Contains, IsDistinct, list_any, filter}
use Rattle.std.specs.Map.{keys_of, lookup}
use Rattle.std.specs.Str.{bytes_eq}
use Rattle.std.specs.declared.option.Option.TheVariants.{None, Some}
use Rattle.std.proofs.lemmas.List.{map-append}
use Rattle.std.proofs.lemmas.List.Elements.{filter-append}
use Rattle.list_laws.proofs.Alls.{all_more, all_weaken, all-from_none}
use Rattle.list_laws.proofs.Distinct.{distinct_more}
use Rattle.list_laws.proofs.Lookups.{found-any}
use Rattle.list_laws.proofs.Texts.{bytes_eq-turned, text_in-from_any}
use Rattle.change_choices.specs.declared.action.Action.{Action}
use Rattle.change_detect.specs.declared.changes.Change.{Change}
use Rattle.choice_lines.specs.Answers.{answer_line, Fits, has_byte, AreAnswers, AddsAnswer}
use Rattle.choice_lines.specs.Refusals.{IsNoAnswer}
use Rattle.choice_lines.proofs.Fitting.{one_answer}

pub no_answers : (changes : List Change) → AreAnswers changes [] []
unfolding IsDistinct
no_answers changes = record { said = refl; fit = tt; once = tt }

-- a path without an answer isn't among those of the answers
fresh : (es : List (List ℕ × Action)) (path : List ℕ) → lookup (bytes_eq path) es ≡ None → IsDistinct bytes_eq (keys_of es) → IsDistinct bytes_eq (keys_of es ++ path ∷ [])
fresh es path none once =
    let nowhere : list_any (bytes_eq path) (keys_of es) ≡ false = sym (found-any (bytes_eq path) es) ∙ ap is_some none in
    distinct_more bytes_eq (keys_of es) path once
    (all_weaken (λ y. bytes_eq path y ≡ false) (λ y. bytes_eq y path ≡ false) (keys_of es) (λ y off. bytes_eq-turned y path ∙ off) (all-from_none (bytes_eq path) (keys_of es) nowhere))

pub one_more : (changes : List Change) (texts : List (List ℕ)) (text : List ℕ) (old new : List (List ℕ × Action)) → AreAnswers changes texts old → AddsAnswer changes text old new → AreAnswers changes (texts ++ text ∷ []) new
one_more changes texts [] old new are adds = record {
  said = filter-append has_byte texts ([] ∷ []) ∙ append-nil (filter has_byte texts) ∙ are.said ∙ ap (map answer_line) (sym adds);
  fit = subst (AllByRecursion (Fits changes)) (sym adds) are.fit;
  once = subst (λ l. IsDistinct bytes_eq (keys_of l)) (sym adds) are.once;
}
one_more changes texts (b ∷ bs) old new are adds =
    let answer = adds.0 in
    let new_is : new ≡ old ++ answer ∷ [] = adds.4 in
    record {
      said = filter-append has_byte texts ((b ∷ bs) ∷ []) ∙ (λ i. are.said i ++ adds.1 i ∷ []) ∙ sym (map-append answer_line old (answer ∷ [])) ∙ ap (map answer_line) (sym new_is);
      fit = subst (AllByRecursion (Fits changes)) (sym new_is) (all_more (Fits changes) old answer are.fit adds.2);
      once = subst (IsDistinct bytes_eq) (sym (map-append (λ (e : List ℕ × Action). e.0) old (answer ∷ [])) ∙ ap keys_of (sym new_is)) (fresh old answer.0 adds.3 are.once);
    }

pub adds_nothing : (changes : List Change) (text : List ℕ) (old new : List (List ℕ × Action)) → text ≡ [] → new ≡ old → AddsAnswer changes text old new
adds_nothing changes [] old new none same = same
adds_nothing changes (b ∷ bs) old new none same = let no : b ∷ bs ≡ [] = none in absurd (cc)

pub adds_one : (changes : List Change) (text : List ℕ) (old new : List (List ℕ × Action)) (answer : List ℕ × Action) → text ≢ [] → text ≡ answer_line answer → Fits changes answer → lookup (bytes_eq answer.0) old ≡ None → new ≡ old ++ answer ∷ [] → AddsAnswer changes text old new
adds_one changes [] old new answer some is fits none new_is = absurd (some refl)
adds_one changes (b ∷ bs) old new answer some is fits none new_is = (answer, is, fits, none, new_is)

-- the path of what the line says has an answer
pub answered_before : (changes : List Change) (text : List ℕ) (earlier : List (List ℕ × Action)) (answer : List ℕ × Action) (action : Action) → text ≡ answer_line answer → lookup (bytes_eq answer.0) earlier ≡ Some action → IsNoAnswer changes earlier text
answered_before changes text earlier answer action is found other says fits =
    let any : list_any (bytes_eq answer.0) (keys_of earlier) ≡ true = sym (found-any (bytes_eq answer.0) earlier) ∙ ap is_some found in
    let same : answer ≡ other = one_answer answer other (sym is ∙ says) in
    subst (λ (a : List ℕ × Action). Contains (keys_of earlier) a.0) same (text_in-from_any (keys_of earlier) answer.0 any)
