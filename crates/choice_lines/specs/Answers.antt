-- What lines say to do about changes.
use Rattle.std.specs.Prelude.{◌≡◌, ◌==◌, if◌then◌else◌, ℕ, ◌+◌, Bool, true, false, List, [], ◌∷◌, ◌++◌, map, filter, option_map, option_to_list}
use Rattle.std.specs.List.{AllByRecursion, Contains, IsDistinct}
use Rattle.std.specs.Map.{keys_of, lookup}
use Rattle.std.specs.Str.{bytes_eq}
use Rattle.std.specs.Option.{option_or}
use Rattle.std.specs.declared.option.Option.{Option}
use Rattle.std.specs.declared.option.Option.TheVariants.{None, Some}
use Rattle.std.specs.declared.result.Result.TheVariants.{Ok}
use Rattle.io_edge.specs.Lines.{after_line}
use Rattle.io_edge.specs.Reader.{next_of}
use Rattle.change_choices.specs.declared.action.Action.{Action}
use Rattle.change_choices.specs.declared.class.Class.{Class}
use Rattle.change_choices.specs.Allowed.{is_allowed}
use Rattle.change_choices.specs.Words.{action_word, action_named}
use Rattle.change_detect.specs.declared.changes.Change.{Change}

-- the line that says to take an action for a path: the path, a tab, and the action's word
abbrev pub answer_line : List ℕ × Action → List ℕ
answer_line answer = answer.0 ++ 9 ∷ action_word answer.1

-- there is a change at the path, and the action is allowed for its class
pub record Fits (changes : List Change) (answer : List ℕ × Action) : Type 0 where
  pub class : Class
  pub change : Contains changes (record { path = answer.0; class = class })
  pub allowed : is_allowed class answer.1 ≡ true

-- the answer that a line says: what stands in front of a tab behind which an action's word stands
abbrev pub answer_in : List ℕ → Option (List ℕ × Action)
answer_in [] = None
answer_in (b ∷ bs) =
    option_or (if b == 9 then option_map (λ action. ([], action)) (action_named bs) else None)
    (option_map (λ answer. (b ∷ answer.0, answer.1)) (answer_in bs))

-- the answers that lines say, in their order; a line that says none is passed over
abbrev pub answers_of : List (List ℕ) → List (List ℕ × Action)
answers_of [] = []
answers_of (text ∷ texts) = option_to_list (answer_in text) ++ answers_of texts

abbrev pub has_byte : List ℕ → Bool
has_byte [] = false
has_byte (b ∷ bs) = true

-- the lines that aren't empty
abbrev pub spoken : List (List ℕ) → List (List ℕ)
spoken texts = filter has_byte texts

-- these answers are what the lines say, in their order: each fits a change, and no path has two
pub record AreAnswers (changes : List Change) (texts : List (List ℕ)) (answers : List (List ℕ × Action)) : Type 0 where
  pub said : spoken texts ≡ map answer_line answers
  pub fit : AllByRecursion (Fits changes) answers
  pub once : IsDistinct bytes_eq (keys_of answers)

-- what a line says is added behind the earlier answers: nothing where it is empty, otherwise an
-- answer that fits a change, for a path that had none
abbrev pub AddsAnswer : List Change → List ℕ → List (List ℕ × Action) → List (List ℕ × Action) → Type 0
AddsAnswer changes [] old new = new ≡ old
AddsAnswer changes (b ∷ bs) old new =
    (answer : List ℕ × Action) × (b ∷ bs ≡ answer_line answer) × Fits changes answer
    × (lookup (bytes_eq answer.0) old ≡ None) × (new ≡ old ++ answer ∷ [])

-- behind so many lines a reader gives these lines of the bytes, one after the other, and then those
-- bytes are ahead
abbrev pub AreRead : ℕ → List ℕ → List (List ℕ) → List ℕ → Type 0
AreRead given bytes [] ahead = ahead ≡ bytes
AreRead given bytes (text ∷ texts) ahead =
    (next_of given bytes ≡ Ok (Some (record { number = given + 1; text = text })))
    × AreRead (given + 1) (after_line bytes) texts ahead
