-- The paths of commands.
use Rattle.profile_edit.specs.Edits.{HasUserPath}
use Rattle.command_words.specs.declared.command.Command.{Command}
use Rattle.command_words.specs.declared.command.Command.TheVariants.{Edit}

-- where the command is an edit that sets an override, its path is a user path
abbrev pub SetsUserPath : Command → Type 0
SetsUserPath (Edit edit) = HasUserPath edit
SetsUserPath _ = Unit {0}
