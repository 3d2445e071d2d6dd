-- A list of commands, a line each.
use Rattle.std.specs.Prelude.{◌≡◌, ◌⊎◌, ℕ, List, [], ◌∷◌, ◌++◌, length}
use Rattle.std.specs.Str.Lines.{lines}
use Rattle.std.specs.declared.option.Option.{Option}
use Rattle.std.specs.declared.option.Option.TheVariants.{None, Some}
use Rattle.std.specs.declared.result.Result.TheVariants.{Err}
use Rattle.io_edge.specs.declared.lines.LineError.{LineError}
use Rattle.io_edge.specs.declared.lines.LineError.TheVariants as error
use Rattle.io_edge.specs.Lines.{TakesNoEnd}
use Rattle.io_edge.specs.Reader.{next_of}
use Rattle.tree_fs.specs.Story.{Story}
use Rattle.choice_lines.specs.declared.error.InputError.{InputError}
use Rattle.command_words.specs.declared.command.Command.{Command}
use Rattle.answer_lines.specs.declared.refusal.InputRefusal.{InputRefusal}
use Rattle.answer_lines.specs.declared.refusal.InputRefusal.TheVariants.{TooManyLines, LineTooLong, BadLine}
use Rattle.answer_lines.specs.declared.refusal.Refusal.TheVariants.{Input}
use Rattle.answer_lines.specs.Refusals.{refusal_line}
use Rattle.command_steps.specs.Inputs.{input_refusal}
use Rattle.command_steps.specs.declared.limits.Limits.{Limits}
use Rattle.deploy_engine.specs.declared.answer.Answer.{Answer}
use Rattle.deploy_engine.specs.declared.answer.Answer.TheVariants.{Ok, Refused, SourceFault}
use Rattle.deploy_engine.specs.Words.{line_said}
use Rattle.deploy_engine.specs.Answers.{SaysOf, Ends, IsThis, IsAlong, OnlyLooks}

-- what a line of a batch did and has to print at each answer; an empty line does nothing, and none
-- takes input
abbrev pub SaysLine : (told : Type 0) → List ℕ → Limits → Story → Story → Answer → List ℕ → Type 0
SaysLine told [] limits old new answer text = (answer ≡ Ok) × (told → new ≡ old) × (text ≡ [])
SaysLine told (b ∷ bs) limits old new answer text =
    SaysOf told [] (line_said (b ∷ bs)) limits old new answer text

-- one line is done: it answers Ok
pub record IsDone (told : Type 0) (limits : Limits) (line : List ℕ) (old new : Story) (text : List ℕ) : Type 0 where
  pub says : SaysLine told line limits old new Ok text
  pub stops : told → IsAlong [] (line_said line) old new
  pub looks : told → OnlyLooks (line_said line) → new ≡ old

-- lines that are done one after the other, and all that they print
abbrev pub AreDone : (told : Type 0) → Limits → List (List ℕ) → Story → Story → List ℕ → Type 0
AreDone told limits [] old new text = (new ≡ old) × (text ≡ [])
AreDone told limits (line ∷ rest) old new text =
    (mid : Story) × (first : List ℕ) × (others : List ℕ) × IsDone told limits line old mid first
    × AreDone told limits rest mid new others × (text ≡ first ++ others)

-- a batch is refused so, and prints the line of that
abbrev pub IsInputRefused : InputRefusal → Answer → List ℕ → Type 0
IsInputRefused refusal answer text =
    IsThis (Refused (Input refusal)) (refusal_line (Input refusal)) answer text

-- what a batch answers and prints at a line that can't be read
abbrev pub IsUnread : LineError → Answer → List ℕ → Type 0
IsUnread error.TooMany answer text = IsInputRefused TooManyLines answer text
IsUnread (error.TooLong n) answer text = IsInputRefused (LineTooLong n) answer text
IsUnread (error.NotText n) answer text = IsInputRefused (BadLine n) answer text
IsUnread error.Failed answer text = ⊥
IsUnread error.Memory answer text = ⊥

-- what a settlement answers and prints at the first line of its input that is no answer
abbrev pub IsBadInput : InputError → Answer → List ℕ → Type 0
IsBadInput error answer text =
    (refusal : InputRefusal) × (input_refusal error ≡ Some refusal)
    × IsInputRefused refusal answer text

-- the line behind those that are done can't be read
pub record IsLineRefused (told : Type 0) (reads : Type 0) (input done : List (List ℕ)) (mid new : Story) (answer : Answer) (text : List ℕ) : Type 0 where
  pub error : LineError
  pub unread : IsUnread error answer text
  pub stays : told → new ≡ mid
  -- these are the bytes ahead
  pub ahead : List ℕ
  pub next : reads → next_of (length done) ahead ≡ Err error
  pub among : reads → input ≡ done ++ lines ahead

-- the next line of the input is this one
abbrev pub IsNext : List (List ℕ) → List (List ℕ) → List ℕ → Type 0
IsNext input done line = (rest : List (List ℕ)) × (input ≡ done ++ line ∷ rest)

-- how a batch ends behind the lines that are done: at the end of input, by its next line, or by one
-- that can't be read
abbrev pub IsLast : (told : Type 0) → Limits → (reads : Type 0) → List (List ℕ) → List (List ℕ)
    → Story → Story → Answer → List ℕ → Type 0
IsLast told limits reads input done mid new answer text =
    ((answer ≡ Ok) × (reads → input ≡ done) × (told → new ≡ mid) × (text ≡ []))
    ⊎ ((line : List ℕ) × (reads → IsNext input done line)
    × SaysLine told line limits mid new answer text)
    ⊎ IsLineRefused told reads input done mid new answer text

-- a batch: its lines are done one after the other, to the end of input or to the first that doesn't
-- answer Ok; these bytes are left in the source
pub record Batched (told tells reads : Type 0) (limits : Limits) (input : List (List ℕ)) (left : List ℕ) (old new : Story) (before now : List ℕ) (answer : Answer) : Type 0 where
  pub start : Story
  pub begins : told → start ≡ old
  pub done : List (List ℕ)
  pub mid : Story
  pub printed : List ℕ
  pub are_done : AreDone told limits done start mid printed
  -- they are the first lines of the input
  pub first : reads → (rest : List (List ℕ)) × (input ≡ done ++ rest)
  -- where the source fails, they are all of those whose end was read
  pub source_fault : told → answer ≡ SourceFault → new ≡ mid
  pub unfinished : reads → answer ≡ SourceFault
      → (ahead : List ℕ) × (input ≡ done ++ lines ahead) × TakesNoEnd ahead left
  pub written : List ℕ
  pub text : tells → written ≡ before ++ printed
  pub ends : Ends (IsLast told limits reads input done mid new) tells written now answer
  -- the disks along its last line, where one was begun
  pub last : Option Command
  pub begun : reads → (last ≡ None)
      ⊎ ((line : List ℕ) × IsNext input done line × (last ≡ line_said line))
  pub stops : told → IsAlong [] last mid new
  pub looks : told → OnlyLooks last → new ≡ mid

-- a batch so far, where so many lines were given and these are left
pub record IsGoing (told tells reads : Type 0) (limits : Limits) (given : ℕ) (input left : List (List ℕ)) (old now : Story) (before written : List ℕ) : Type 0 where
  pub done : List (List ℕ)
  pub printed : List ℕ
  pub are_done : AreDone told limits done old now printed
  pub text : tells → written ≡ before ++ printed
  pub rest : reads → input ≡ done ++ left
  pub count : length done ≡ given
