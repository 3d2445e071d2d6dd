-- The choices that the options of `settle` say.
use Rattle.std.specs.Prelude.{◌≡◌, List, [], Bool, true, false, Option, Some, None, option_and_then, option_map, unwrap_or, codes, refl}
use Rattle.std.specs.Str.{bytes_eq}
use Rattle.change_choices.specs.Allowed.{is_allowed}
use Rattle.change_choices.specs.Words.{action_named}
use Rattle.change_choices.specs.declared.action.Action.{Action}
use Rattle.change_choices.specs.declared.choices.Choices.{Choices}
use Rattle.change_choices.specs.declared.class.Class.{Class}
use Rattle.change_choices.specs.declared.class.Class.TheVariants.{Replaced, Changed, Deleted, SourceDeleted, Gone}
use Rattle.command_words.specs.declared.command.Command.{Command}
use Rattle.command_words.specs.declared.command.Command.TheVariants.{Settle}
use Rattle.command_words.specs.Words.{Text}
use Rattle.command_words.specs.Options.{flag_name, options, value_of}

-- an action that is allowed for the class
abbrev pub AllowedAction : Class → Type 0
AllowedAction class = (action : Action) × (is_allowed class action ≡ true)

-- the action, where the test of it passes
abbrev pub by_test : (class : Class) (action : Action) (test : Bool)
    → is_allowed class action ≡ test → Option (AllowedAction class)
by_test class action true passes = Some (action, passes)
by_test class action false fails = None

abbrev pub if_allowed : (class : Class) → Action → Option (AllowedAction class)
if_allowed class action = by_test class action (is_allowed class action) refl

-- the action of a class: that of its option's value, or else the default
abbrev pub action_for : (class : Class) → Text → Option Text → Option (AllowedAction class)
action_for class default value =
    option_and_then (if_allowed class) (action_named (unwrap_or value default))

-- the choices, where each class has its action, and none for a single path
abbrev pub choices_with : Option (AllowedAction Replaced) → Option (AllowedAction Changed)
    → Option (AllowedAction Deleted) → Option (AllowedAction SourceDeleted)
    → Option (AllowedAction Gone) → Option Choices
choices_with (Some r) (Some c) (Some d) (Some s) (Some g) = Some (record {
  replaced = r.0;
  changed = c.0;
  deleted = d.0;
  source_deleted = s.0;
  gone = g.0;
  paths = [];
  replaced_allowed = r.1;
  changed_allowed = c.1;
  deleted_allowed = d.1;
  source_deleted_allowed = s.1;
  gone_allowed = g.1;
})
choices_with _ _ _ _ _ = None

-- the choices by the value of each option
abbrev pub choices_by : (Text → Option Text) → Option Choices
choices_by value =
    choices_with (action_for Replaced (codes "aside") (value (codes "replaced")))
    (action_for Changed (codes "keep") (value (codes "changed")))
    (action_for Deleted (codes "restore") (value (codes "deleted")))
    (action_for SourceDeleted (codes "restore") (value (codes "source-deleted")))
    (action_for Gone (codes "drop") (value (codes "gone")))

-- whether the flag stood, by its value
abbrev pub is_set : Option Text → Bool
is_set value = bytes_eq (unwrap_or value (codes "false")) (codes "true")

-- the settlement by the value of each name
abbrev pub settled_by : (Text → Option Text) → Option Command
settled_by value =
    option_map (λ choices. Settle choices (is_set (value flag_name))) (choices_by value)

-- the settlement that the words after `settle` say
abbrev pub settled : List Text → Option Command
settled words = option_and_then (λ uses. settled_by (value_of uses)) (options words)
