-- What an input says about the changes of a disk.
use Rattle.std.specs.Prelude.{◌≡◌, ℕ, List, []}
use Rattle.std.specs.Str.Lines.{lines}
use Rattle.std.specs.declared.option.Option.{Option}
use Rattle.std.specs.declared.option.Option.TheVariants.{None, Some}
use Rattle.io_edge.specs.declared.lines.LineError.TheVariants as line
use Rattle.tree_fs.specs.Disk.{Disk}
use Rattle.change_choices.specs.declared.action.Action.{Action}
use Rattle.change_detect.specs.declared.changes.Change.{Change}
use Rattle.change_detect.specs.Changes.{changes_by}
use Rattle.change_detect.specs.Classes.{class_of}
use Rattle.desk_model.specs.Records.{rows_on}
use Rattle.choice_lines.specs.declared.error.InputError.{InputError}
use Rattle.choice_lines.specs.declared.error.InputError.TheVariants as input
use Rattle.choice_lines.specs.Answers.{answers_of, AreAnswers, AreRead}
use Rattle.choice_lines.specs.Refusals.{IsFirstRefused}
use Rattle.answer_lines.specs.declared.refusal.InputRefusal.{InputRefusal}
use Rattle.answer_lines.specs.declared.refusal.InputRefusal.TheVariants.{LineTooLong, TooManyLines, BadLine, BadAnswer}

-- the rows of the manifest that aren't clean
abbrev pub changes_on : Disk → List Change
changes_on d = changes_by (class_of d) (rows_on d)

-- the actions for single paths that the lines of an input say
abbrev pub answers_in : List ℕ → List (List ℕ × Action)
answers_in bytes = answers_of (lines bytes)

-- the lines of an input can be read to its end, and say answers about the changes of a disk
pub record IsAnswered (d : Disk) (bytes : List ℕ) : Type 0 where
  pub read : AreRead 0 bytes (lines bytes) []
  pub answers : AreAnswers (changes_on d) (lines bytes) (answers_in bytes)

-- how a line refuses that is no answer; a failed read and want of memory refuse nothing
abbrev pub input_refusal : InputError → Option InputRefusal
input_refusal (input.Unread line.TooMany) = Some TooManyLines
input_refusal (input.Unread (line.TooLong n)) = Some (LineTooLong n)
input_refusal (input.Unread (line.NotText n)) = Some (BadLine n)
input_refusal (input.Unread line.Failed) = None
input_refusal (input.Unread line.Memory) = None
input_refusal (input.BadAnswer n) = Some (BadAnswer n)

-- the first line of an input that is refused is refused so
pub record IsInputRefusal (d : Disk) (bytes : List ℕ) (refusal : InputRefusal) : Type 0 where
  pub error : InputError
  pub first : IsFirstRefused (changes_on d) bytes error
  pub is : input_refusal error ≡ Some refusal
