-- The choice of a settlement for a path.
use Rattle.std.specs.Prelude.{ℕ, List, Option, Some, None, if◌then◌else◌}
use Rattle.std.specs.Map.{lookup}
use Rattle.std.specs.Str.{bytes_eq}
use Rattle.change_choices.specs.declared.action.Action.{Action}
use Rattle.change_choices.specs.declared.choices.Choices.{Choices}
use Rattle.change_choices.specs.declared.class.Class.{Class}
use Rattle.change_choices.specs.declared.class.Class.TheVariants.{Replaced, Changed, Deleted, SourceDeleted, Gone}
use Rattle.change_choices.specs.Allowed.{is_allowed}

-- the action for a class, where its path has none of its own
abbrev pub class_action : Choices → Class → Action
class_action c Replaced = c.replaced
class_action c Changed = c.changed
class_action c Deleted = c.deleted
class_action c SourceDeleted = c.source_deleted
class_action c Gone = c.gone

-- an action where it is allowed for the class, otherwise the other one
abbrev pub if_allowed : Class → Option Action → Action → Action
if_allowed class None other = other
if_allowed class (Some a) other = if is_allowed class a then a else other

-- the action of the first entry with this path, where it is allowed for the class,
-- otherwise the class's action
abbrev pub choice : Choices → List ℕ → Class → Action
choice c path class = if_allowed class (lookup (bytes_eq path) c.paths) (class_action c class)
