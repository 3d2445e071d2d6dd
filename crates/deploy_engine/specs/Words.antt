-- The command that words say.
use Rattle.std.specs.Prelude.{◌==◌, ℕ, List, Bool, true, Option, None, Some}
use Rattle.std.specs.List.{slice_split}
use Rattle.command_words.specs.declared.command.Command.{Command}
use Rattle.command_words.specs.declared.command.Command.TheVariants.{Settle, Batch}
use Rattle.command_words.specs.Words.{Text}
use Rattle.command_words.specs.Form.{form}

-- the command that the words say
abbrev pub command_said : List Text → Option Command
command_said words = form words

-- a batch and a settlement by input are no lines of a batch
abbrev pub in_batch : Option Command → Option Command
in_batch None = None
in_batch (Some Batch) = None
in_batch (Some (Settle choices true)) = None
in_batch (Some command) = Some command

abbrev pub is_tab : ℕ → Bool
is_tab b = b == 9

-- the commands that take lines of input
abbrev pub TakesInput : Option Command → Type 0
TakesInput (Some Batch) = Unit {0}
TakesInput (Some (Settle choices true)) = Unit {0}
TakesInput command = ⊥

-- the words of a line, which single tabs part
abbrev pub line_words : Text → List Text
line_words line = slice_split is_tab line

-- the command that a line of a batch says
abbrev pub line_said : Text → Option Command
line_said line = in_batch (command_said (line_words line))
