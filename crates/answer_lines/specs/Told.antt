-- Lines without a value, and lines of totals.
use Rattle.std.specs.Prelude.{ℕ, List, [], ◌++◌, codes}
use Rattle.std.specs.Fmt.{decimal}
use Rattle.answer_lines.specs.declared.fixed.FixedLine.{FixedLine}
use Rattle.answer_lines.specs.declared.fixed.FixedLine.TheVariants.{Usage, RecoverFirst, NothingToRecover, ProfileWritten, ProfileUnchanged}
use Rattle.answer_lines.specs.declared.totals.IntentState.{IntentState}
use Rattle.answer_lines.specs.declared.totals.IntentState.TheVariants.{None, Set, Clear}
use Rattle.answer_lines.specs.declared.totals.Totals.{Totals}
use Rattle.answer_lines.specs.declared.totals.Totals.TheVariants.{Deployed, Settled, Purged, Recovered, Status}
use Rattle.answer_lines.specs.Lines.{line, line_end}

abbrev pub fixed_line : FixedLine → List ℕ
fixed_line Usage = line (codes "usage") []
fixed_line RecoverFirst = line (codes "recover first") []
fixed_line NothingToRecover = line (codes "nothing to recover") []
fixed_line ProfileWritten = line (codes "profile written") []
fixed_line ProfileUnchanged = line (codes "profile unchanged") []

abbrev pub intent_word : IntentState → List ℕ
intent_word None = codes "none"
intent_word Set = codes "set"
intent_word Clear = codes "clear"

-- a word and a count, the sets and the saves
abbrev pub moved_line : List ℕ → ℕ → ℕ → ℕ → List ℕ
moved_line word count sets saves =
    word ++ (codes " " ++ (decimal count ++ (codes ", set " ++ (decimal sets
    ++ (codes ", saved " ++ (decimal saves ++ line_end))))))

abbrev pub recovered_line : ℕ → ℕ → List ℕ
recovered_line sets clears =
    codes "recovered, set " ++ (decimal sets ++ (codes ", cleared " ++ (decimal clears ++ line_end)))

-- three lines: how many files and folders there are, and which intent stands
abbrev pub status_lines : ℕ → ℕ → IntentState → List ℕ
status_lines files folders intent =
    codes "files " ++ (decimal files ++ (line_end
    ++ (codes "folders " ++ (decimal folders ++ (line_end
    ++ (codes "intent " ++ (intent_word intent ++ line_end)))))))

abbrev pub total_lines : Totals → List ℕ
total_lines (Deployed rows sets saves) = moved_line (codes "deployed") rows sets saves
total_lines (Settled changes sets saves) = moved_line (codes "settled") changes sets saves
total_lines (Purged rows sets saves) = moved_line (codes "purged") rows sets saves
total_lines (Recovered sets clears) = recovered_line sets clears
total_lines (Status files folders intent) = status_lines files folders intent
