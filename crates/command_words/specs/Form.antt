-- What the words of a command say.
use Rattle.std.specs.Prelude.{List, [], ◌∷◌, Option, Some, None, option_and_then, option_map, if◌then◌else◌, codes}
use Rattle.std.specs.Str.{bytes_eq}
use Rattle.profile_edit.specs.declared.edit.Edit.TheVariants as edit
use Rattle.command_words.specs.declared.command.Command.{Command}
use Rattle.command_words.specs.declared.command.Command.TheVariants as command
use Rattle.command_words.specs.declared.first_word.FirstWord.{FirstWord}
use Rattle.command_words.specs.declared.first_word.FirstWord.TheVariants as first
use Rattle.command_words.specs.Words.{Text}
use Rattle.command_words.specs.Positionals.{positionals}
use Rattle.command_words.specs.Values.{mod_id, user_path, number, only, path_and_id, id_and_version, id_kind_id}
use Rattle.command_words.specs.Settling.{settled}

abbrev pub first_named : Text → Option FirstWord
first_named word =
    if bytes_eq word (codes "order") then Some first.Order
    else (if bytes_eq word (codes "winners") then Some first.Winners
    else (if bytes_eq word (codes "conflicts") then Some first.Conflicts
    else (if bytes_eq word (codes "plan") then Some first.Plan
    else (if bytes_eq word (codes "deploy") then Some first.Deploy
    else (if bytes_eq word (codes "check") then Some first.Check
    else (if bytes_eq word (codes "status") then Some first.Status
    else (if bytes_eq word (codes "settle") then Some first.Settle
    else (if bytes_eq word (codes "purge") then Some first.Purge
    else (if bytes_eq word (codes "recover") then Some first.Recover
    else (if bytes_eq word (codes "batch") then Some first.Batch
    else (if bytes_eq word (codes "enable") then Some first.Enable
    else (if bytes_eq word (codes "disable") then Some first.Disable
    else (if bytes_eq word (codes "rule") then Some first.Rule
    else (if bytes_eq word (codes "drop-rule") then Some first.DropRule
    else (if bytes_eq word (codes "override") then Some first.Override
    else (if bytes_eq word (codes "drop-override") then Some first.DropOverride
    else (if bytes_eq word (codes "upgrade") then Some first.Upgrade
    else (if bytes_eq word (codes "release") then Some first.Release
    else (if bytes_eq word (codes "sample") then Some first.Sample
    else None)))))))))))))))))))

-- the command, where no word stands
abbrev pub nothing : Command → List Text → Option Command
nothing c [] = Some c
nothing c (word ∷ words) = None

-- the command of a first word that takes no options, by its positional words
abbrev pub plain_form : FirstWord → List Text → Option Command
plain_form first.Order words = nothing command.Order words
plain_form first.Winners words = nothing command.Winners words
plain_form first.Conflicts words = nothing command.Conflicts words
plain_form first.Plan words = nothing command.Plan words
plain_form first.Deploy words = nothing command.Deploy words
plain_form first.Check words = nothing command.Check words
plain_form first.Status words = nothing command.Status words
plain_form first.Purge words = nothing command.Purge words
plain_form first.Recover words = nothing command.Recover words
plain_form first.Batch words = nothing command.Batch words
plain_form first.Enable words =
    option_map (λ id. command.Edit (edit.Enable id)) (only mod_id words)
plain_form first.Disable words =
    option_map (λ id. command.Edit (edit.Disable id)) (only mod_id words)
plain_form first.Rule words =
    option_map (λ r. command.Edit (edit.AddRule r.0 r.1 r.2)) (id_kind_id words)
plain_form first.DropRule words =
    option_map (λ r. command.Edit (edit.DropRule r.0 r.1 r.2)) (id_kind_id words)
plain_form first.Override words =
    option_map (λ o. command.Edit (edit.SetOverride o.0 o.1)) (path_and_id words)
plain_form first.DropOverride words =
    option_map (λ path. command.Edit (edit.DropOverride path)) (only user_path words)
plain_form first.Upgrade words = nothing (command.Edit edit.Upgrade) words
plain_form first.Release words =
    option_map (λ r. command.Edit (edit.Release r.0 r.1)) (id_and_version words)
plain_form first.Sample words = option_map (λ n. command.Sample n) (only number words)
plain_form first.Settle words = None

-- the command of a first word, by the words after it
abbrev pub after_first_word : FirstWord → List Text → Option Command
after_first_word first.Settle words = settled words
after_first_word word words = option_and_then (plain_form word) (positionals words)

-- the command that the words say
abbrev pub form : List Text → Option Command
form [] = None
form (word ∷ words) = option_and_then (λ f. after_first_word f words) (first_named word)
