-- The laws of what lines say.
use Rattle.std.specs.Prelude.{◌≡◌, ℕ, List, []}
use Rattle.std.specs.Str.Lines.{lines}
use Rattle.change_choices.specs.declared.action.Action.{Action}
use Rattle.change_detect.specs.declared.changes.Change.{Change}
use Rattle.choice_lines.specs.declared.error.InputError.{InputError}
use Rattle.choice_lines.specs.Answers.{AreAnswers, AreRead}
use Rattle.choice_lines.specs.Refusals.{IsFirstRefused}

-- lines say one list of answers
abbrev pub OneReading : Type 0
OneReading =
    (changes : List Change) (texts : List (List ℕ)) (one other : List (List ℕ × Action))
    → AreAnswers changes texts one → AreAnswers changes texts other → one ≡ other

-- where all lines of an input are read and say answers, none is refused
abbrev pub ReadOrRefused : Type 0
ReadOrRefused =
    (changes : List Change) (input : List ℕ) (answers : List (List ℕ × Action)) (error : InputError)
    → AreRead 0 input (lines input) [] → AreAnswers changes (lines input) answers
    → IsFirstRefused changes input error → ⊥

-- an input is refused in one way
abbrev pub OneRefusal : Type 0
OneRefusal =
    (changes : List Change) (input : List ℕ) (one other : InputError)
    → IsFirstRefused changes input one → IsFirstRefused changes input other → one ≡ other
