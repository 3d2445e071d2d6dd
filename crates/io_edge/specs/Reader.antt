-- A reader of lines, and its answers.
use Rattle.std.specs.Prelude.{ℕ, ◌+◌, ◌≡◌, nat_lt, nat_le, if◌then◌else◌, List, [], ◌∷◌, length}
use Rattle.std.specs.declared.option.Option.{Option}
use Rattle.std.specs.declared.option.Option.TheVariants.{None, Some}
use Rattle.std.specs.declared.result.Result.{Result}
use Rattle.std.specs.declared.result.Result.TheVariants.{Ok, Err}
use Rattle.std.specs.Str.{is_utf8}
use Rattle.io_edge.specs.declared.error.IoError.{IoError}
use Rattle.io_edge.specs.declared.error.IoError.TheVariants as io
use Rattle.io_edge.specs.declared.lines.LineError.{LineError}
use Rattle.io_edge.specs.declared.lines.LineError.TheVariants.{TooLong, TooMany, NotText, Failed, Memory}
use Rattle.io_edge.specs.Lines.{most_lines, most_line_bytes, line_bytes, line_text}

-- a line as it is given: its number, counted from 1, and the bytes of its text
pub record LineText : Type 0 where
  pub number : ℕ
  pub text : List ℕ

-- a reader of lines
pub record ReaderState : Type 0 where
  -- the bytes that were pulled and belong to no line given so far
  pub held : List ℕ
  -- how many lines were given
  pub given : ℕ
  -- the error that was answered, and is answered from then on
  pub stuck : Option LineError

-- the answer after so many lines, where these are the bytes ahead
abbrev pub next_of : ℕ → List ℕ → Result (Option LineText) LineError
next_of given [] = Ok None
next_of given (b ∷ bs) =
    if nat_le most_lines given then Err TooMany
    else if nat_lt most_line_bytes (length (line_bytes (b ∷ bs))) then Err (TooLong (given + 1))
    else if is_utf8 (line_text (b ∷ bs)) then Ok (Some (record { number = given + 1; text = line_text (b ∷ bs) })) else Err (NotText (given + 1))

-- the text of the line that an answer gives
abbrev pub texts_of : Option LineText → List (List ℕ)
texts_of None = []
texts_of (Some line) = line.text ∷ []

-- this answer, where the source and memory didn't give out
abbrev pub IsUnlessBroken : Result (Option LineText) LineError → Result (Option LineText) LineError → Type 0
IsUnlessBroken (Err Failed) answer = Unit {0}
IsUnlessBroken (Err Memory) answer = Unit {0}
IsUnlessBroken result answer = result ≡ answer

-- the same error of a reader
abbrev pub line_error : IoError → LineError
line_error io.Failed = Failed
line_error io.Memory = Memory
