-- Which actions may be taken for changes of which class.
use Rattle.std.specs.Prelude.{Bool, true, false}
use Rattle.change_choices.specs.declared.action.Action.{Action}
use Rattle.change_choices.specs.declared.action.Action.TheVariants.{Aside, Import, Revert, Keep, Restore, Drop}
use Rattle.change_choices.specs.declared.class.Class.{Class}
use Rattle.change_choices.specs.declared.class.Class.TheVariants.{Replaced, Changed, Deleted, SourceDeleted, Gone}

-- the nine pairs that are allowed
abbrev pub is_allowed : Class → Action → Bool
is_allowed Replaced Aside = true
is_allowed Replaced Import = true
is_allowed Replaced Revert = true
is_allowed Changed Keep = true
is_allowed Deleted Restore = true
is_allowed Deleted Drop = true
is_allowed SourceDeleted Restore = true
is_allowed SourceDeleted Drop = true
is_allowed Gone Drop = true
is_allowed _ _ = false
