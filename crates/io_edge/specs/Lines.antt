-- Lines of bytes.
use Rattle.std.specs.Prelude.{◌≡◌, ℕ, ◌+◌, ◌-◌, ◌==◌, Bool, false, if◌then◌else◌, List, ◌++◌, length, slice_index, take}
use Rattle.std.specs.List.{before_first, after_first, position_or_len, list_any}
use Rattle.std.specs.Str.Lines.{strip_carriage_return}

-- the most lines of an input
abbrev pub most_lines : ℕ
most_lines = 10000

-- the most bytes of a line, its LF not counted
abbrev pub most_line_bytes : ℕ
most_line_bytes = 4096

abbrev pub is_lf : ℕ → Bool
is_lf b = b == 10

-- whether an LF stands in these bytes, which then ends their first line
abbrev pub has_lf : List ℕ → Bool
has_lf bytes = list_any is_lf bytes

-- the bytes of the first line: those before the first LF, or all
abbrev pub line_bytes : List ℕ → List ℕ
line_bytes bytes = before_first is_lf bytes

-- the first line with its LF, where it has one
abbrev pub through_line : List ℕ → List ℕ
through_line bytes = take (position_or_len is_lf bytes + 1) bytes

-- what stands after the first line and its LF
abbrev pub after_line : List ℕ → List ℕ
after_line bytes = after_first is_lf bytes

-- the text of the first line: a CR before its LF is no part of it
abbrev pub line_text : List ℕ → List ℕ
line_text bytes = if has_lf bytes then strip_carriage_return (line_bytes bytes) else line_bytes bytes

-- a whole line without the LF at its end, and without a CR before that
abbrev pub without_end : List ℕ → List ℕ
without_end line = if slice_index line (length line - 1) == 10 then strip_carriage_return (take (length line - 1) line) else line

-- what was taken off the bytes ahead has no LF, so no line whose end was read is lost
pub record TakesNoEnd (ahead left : List ℕ) : Type 0 where
  pub taken : List ℕ
  pub parts : ahead ≡ taken ++ left
  pub no_end : has_lf taken ≡ false
