-- The two forms of the intent of a plan.
use Rattle.std.specs.Prelude.{◌==◌, ◌&&◌, Bool, true, List, [], length}
use Rattle.tree_fs.specs.declared.place.Place.{Place}
use Rattle.move_plan.specs.declared.plan.SetRow.{SetRow}
use Rattle.move_plan.specs.declared.plan.Plan.{Plan}
use Rattle.intent_json.specs.declared.intent.Phase.{Phase}
use Rattle.intent_json.specs.declared.intent.Phase.TheVariants.{Set, Clear}
use Rattle.intent_json.specs.declared.intent.Intent.{Intent}

-- the set form of a plan
abbrev pub set_form : Plan → Intent
set_form plan = record { phase = Set; plan = plan }

-- what the clear form has of a plan: no folders to make, no saves and no sets
unfoldable pub bare_of : Plan → Plan
bare_of plan = record plan { folders = []; saves = []; sets = [] }

-- the clear form of a plan
abbrev pub clear_form : Plan → Intent
clear_form plan = record { phase = Clear; plan = bare_of plan }

-- the form of a plan's intent in a phase
abbrev pub form_of : Phase → Plan → Intent
form_of Set plan = set_form plan
form_of Clear plan = clear_form plan

-- the intent of these steps and of the rest of a plan
abbrev pub with_steps : Phase → List Place → List (Place × Place) → List SetRow → Plan → Intent
with_steps phase folders saves sets plan =
    record { phase = phase; plan = record plan { folders = folders; saves = saves; sets = sets } }

-- whether nothing is made, saved or set
abbrev pub is_bare : Plan → Bool
is_bare plan = (length plan.folders == 0) && ((length plan.saves == 0) && (length plan.sets == 0))

-- whether a plan may stand in an intent of this phase
abbrev pub is_formed : Phase → Plan → Bool
is_formed Set plan = true
is_formed Clear plan = is_bare plan
