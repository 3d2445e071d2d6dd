-- What a command that carries out a plan relies on, as claims.
use Rattle.std.specs.Prelude.{◌≡◌, ℕ, List}
use Rattle.std.specs.declared.option.Option.TheVariants.{Some}
use Rattle.rel_paths.specs.declared.control.Control.{Control}
use Rattle.tree_fs.specs.declared.name.Kind.TheVariants.{Absent}
use Rattle.tree_fs.specs.declared.place.Root.TheVariants.{Keep}
use Rattle.tree_fs.specs.Spot.{Spot, root_spot}
use Rattle.tree_fs.specs.Texts.{control_spot}
use Rattle.tree_fs.specs.Disk.{Disk, Image, kind_of}
use Rattle.tree_fs.specs.Frames.{EntriesSettled}
use Rattle.tree_fs.specs.Story.{Story, disk_of}
use Rattle.move_plan.specs.declared.plan.Plan.{Plan}
use Rattle.move_plan.specs.Places.{Has}
use Rattle.intent_json.specs.Forms.{set_form}
use Rattle.intent_journal.specs.Temps.{IsFileOrAbsent}
use Rattle.intent_journal.specs.Sweeps.{Sweeps, LeadsLikeAStop}
use Rattle.desk_model.specs.Places.{intent_spot}
use Rattle.desk_model.specs.Desk.{desk}
use Rattle.desk_model.specs.Deployed.{Win, Deployed}
use Rattle.desk_model.specs.Settled.{Choice, Settled}
use Rattle.desk_model.specs.Purged.{Purged}
use Rattle.desk_model.specs.Outcome.{outcome_by, outcome_now}
use Rattle.desk_model.specs.History.{KeepsPlain}
use Rattle.desk_model.specs.Standing.{Standing, Invariant}
use Rattle.desk_model.specs.Stops.{Leads}
use Rattle.plan_model.specs.Folders.{FoldersLaidOut}
use Rattle.plan_exec.specs.Ending.{NoTemps, Executed, IsPlanned, StopsOldOrNew}
use Rattle.plan_run.specs.Quiet.{IsQuiet, IsDeskOf}
use Rattle.plan_run.specs.Runs.{IsAbove}

-- What the sweep leaves

-- where no intent was, the disk is quiet after the sweep
abbrev pub SweptIsQuiet : Type 0
SweptIsQuiet =
    (a e : Disk) → kind_of a intent_spot ≡ Absent → Sweeps a e → Standing e
    → NoTemps e → EntriesSettled e (root_spot Keep) → IsQuiet e

-- where nothing was in the way of a control place, nothing is
abbrev pub SweptIsOpen : Type 0
SweptIsOpen =
    (a e : Disk) → Sweeps a e → NoTemps e
    → (which : Control) → IsFileOrAbsent a (control_spot which)
    → IsFileOrAbsent e (control_spot which)

-- each step keeps the invariant of a history, and the game folder without mods
abbrev pub SweepsKeep : Type 0
SweepsKeep =
    (a e : Disk) → Invariant a → Sweeps a e → Standing e → LeadsLikeAStop a e → KeepsPlain a e

-- A quiet disk

-- recovery of whatever a stop leaves of it leads to its desk
abbrev pub QuietLeads : Type 0
QuietLeads = (a : Disk) → IsQuiet a → Leads (IsDeskOf a) a

abbrev pub QuietStops : Type 0
QuietStops =
    (a left : Disk) → IsQuiet a → Image a left → Standing left × IsDeskOf a (outcome_now left)

-- a command that does no step there leaves the old desk at every stop
abbrev pub QuietKeeps : Type 0
QuietKeeps = (s : Story) → IsQuiet (disk_of s) → StopsOldOrNew (IsDeskOf (disk_of s)) s s

-- A plan

-- a plan that makes the missing parents of its destinations makes no other folder
abbrev pub LaidOutIsNeeded : Type 0
LaidOutIsNeeded =
    (a : Disk) (own : List (List ℕ)) (plan : Plan) → FoldersLaidOut a own plan
    → (s : Spot) → Has plan.folders s → IsAbove plan s

-- What a plan leads to that was carried out

-- the disk is quiet again
abbrev pub ExecutedIsQuiet : Type 0
ExecutedIsQuiet = (plan : Plan) (a e : Disk) → Executed plan a e → IsQuiet e

-- the desk after it is the deployment, and so is the new one of each stop, where the plan leads to
-- one
abbrev pub DeploysToEnd : Type 0
DeploysToEnd =
    (a e : Disk) (wins : List Win) (plan : Plan)
    → Deployed a wins (outcome_by a (Some (set_form plan))) → Executed plan a e
    → Deployed a wins (desk e)

abbrev pub DeploysAtStops : Type 0
DeploysAtStops =
    (s t : Story) (wins : List Win) (plan : Plan)
    → Deployed (disk_of s) wins (outcome_by (disk_of s) (Some (set_form plan)))
    → StopsOldOrNew (IsPlanned (disk_of s) plan) s t
    → StopsOldOrNew (Deployed (disk_of s) wins) s t

-- the same for a settlement
abbrev pub SettlesToEnd : Type 0
SettlesToEnd =
    (a e : Disk) (choice : Choice) (plan : Plan)
    → Settled a choice (outcome_by a (Some (set_form plan))) → Executed plan a e
    → Settled a choice (desk e)

abbrev pub SettlesAtStops : Type 0
SettlesAtStops =
    (s t : Story) (choice : Choice) (plan : Plan)
    → Settled (disk_of s) choice (outcome_by (disk_of s) (Some (set_form plan)))
    → StopsOldOrNew (IsPlanned (disk_of s) plan) s t
    → StopsOldOrNew (Settled (disk_of s) choice) s t

-- and for a purge
abbrev pub PurgesToEnd : Type 0
PurgesToEnd =
    (a e : Disk) (plan : Plan)
    → Purged a (outcome_by a (Some (set_form plan))) → Executed plan a e → Purged a (desk e)

abbrev pub PurgesAtStops : Type 0
PurgesAtStops =
    (s t : Story) (plan : Plan)
    → Purged (disk_of s) (outcome_by (disk_of s) (Some (set_form plan)))
    → StopsOldOrNew (IsPlanned (disk_of s) plan) s t
    → StopsOldOrNew (Purged (disk_of s)) s t
