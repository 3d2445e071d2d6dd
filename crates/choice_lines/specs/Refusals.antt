-- Why the choices of an input aren't read.
use Rattle.std.specs.Prelude.{◌≡◌, ◌≢◌, ℕ, List, [], ◌++◌, length}
use Rattle.std.specs.List.{Contains}
use Rattle.std.specs.Map.{keys_of}
use Rattle.std.specs.Str.Lines.{lines}
use Rattle.std.specs.declared.option.Option.{Option}
use Rattle.std.specs.declared.option.Option.TheVariants.{None, Some}
use Rattle.std.specs.declared.result.Result.{Result}
use Rattle.std.specs.declared.result.Result.TheVariants.{Ok, Err}
use Rattle.io_edge.specs.declared.lines.LineError.{LineError}
use Rattle.io_edge.specs.Reader.{LineText, next_of}
use Rattle.change_choices.specs.declared.action.Action.{Action}
use Rattle.change_detect.specs.declared.changes.Change.{Change}
use Rattle.choice_lines.specs.declared.error.InputError.{InputError}
use Rattle.choice_lines.specs.declared.error.InputError.TheVariants.{Unread, BadAnswer}
use Rattle.choice_lines.specs.Answers.{answer_line, Fits, AreAnswers, AreRead}

-- whatever the line says, that fits no change, or its path is among those of the earlier answers
abbrev pub IsNoAnswer : List Change → List (List ℕ × Action) → List ℕ → Type 0
IsNoAnswer changes earlier text =
    (answer : List ℕ × Action) → text ≡ answer_line answer → Fits changes answer
    → Contains (keys_of earlier) answer.0

-- behind these answers, what a reader gives next is refused so: there is no line that can be read, or
-- the line isn't empty and is no answer
abbrev pub IsRefused : List Change → List (List ℕ × Action) → Result (Option LineText) LineError → InputError → Type 0
IsRefused changes earlier (Ok None) error = ⊥
IsRefused changes earlier (Ok (Some line)) error =
    (error ≡ BadAnswer line.number) × (line.text ≢ []) × IsNoAnswer changes earlier line.text
IsRefused changes earlier (Err e) error = error ≡ Unread e

-- the first line that is refused is refused so: those in front of it are answers
pub record IsFirstRefused (changes : List Change) (input : List ℕ) (error : InputError) : Type 0 where
  pub front : List (List ℕ)
  pub ahead : List ℕ
  pub read : AreRead 0 input front ahead
  pub first : lines input ≡ front ++ lines ahead
  pub earlier : List (List ℕ × Action)
  pub answers : AreAnswers changes front earlier
  pub refused : IsRefused changes earlier (next_of (length front) ahead) error
