-- The words of actions and the names of classes.
use Rattle.std.specs.Prelude.{ℕ, List, Option, Some, None, if◌then◌else◌, codes}
use Rattle.std.specs.Str.{bytes_eq}
use Rattle.change_choices.specs.declared.action.Action.{Action}
use Rattle.change_choices.specs.declared.action.Action.TheVariants.{Aside, Import, Revert, Keep, Restore, Drop}
use Rattle.change_choices.specs.declared.class.Class.{Class}
use Rattle.change_choices.specs.declared.class.Class.TheVariants.{Replaced, Changed, Deleted, SourceDeleted, Gone}

-- the word of an action
abbrev pub action_word : Action → List ℕ
action_word Aside = codes "aside"
action_word Import = codes "import"
action_word Revert = codes "revert"
action_word Keep = codes "keep"
action_word Restore = codes "restore"
action_word Drop = codes "drop"

-- the action with a word
abbrev pub action_named : List ℕ → Option Action
action_named word =
    if bytes_eq word (codes "aside") then Some Aside
    else (if bytes_eq word (codes "import") then Some Import
    else (if bytes_eq word (codes "revert") then Some Revert
    else (if bytes_eq word (codes "keep") then Some Keep
    else (if bytes_eq word (codes "restore") then Some Restore
    else (if bytes_eq word (codes "drop") then Some Drop
    else None)))))

-- the name of a class
abbrev pub class_name : Class → List ℕ
class_name Replaced = codes "Replaced"
class_name Changed = codes "Changed"
class_name Deleted = codes "Deleted"
class_name SourceDeleted = codes "SourceDeleted"
class_name Gone = codes "Gone"
