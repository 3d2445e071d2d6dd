-- The desk that a value of the intent place leads to.
use Rattle.std.specs.Prelude.{◌≡◌, ◌⊎◌, ℕ, Bool, true, false, ◌||◌, if◌then◌else◌, List, [], ◌∷◌}
use Rattle.std.specs.declared.option.Option.{Option}
use Rattle.std.specs.declared.option.Option.TheVariants.{None, Some}
use Rattle.tree_fs.specs.declared.place.Place.{Place}
use Rattle.tree_fs.specs.Spot.{Spot, spot_of, spot_eq, IsBelow}
use Rattle.tree_fs.specs.Disk.{Disk, Value, none, file, odd}
use Rattle.manifest_json.specs.declared.manifest.Manifest.{Manifest}
use Rattle.move_plan.specs.declared.plan.SetRow.{SetRow}
use Rattle.move_plan.specs.declared.plan.Plan.{Plan}
use Rattle.move_plan.specs.Places.{Has}
use Rattle.intent_json.specs.declared.intent.Intent.{Intent}
use Rattle.intent_json.specs.Reads.{intent_value}
use Rattle.desk_model.specs.Places.{intent_spot}
use Rattle.desk_model.specs.Records.{Recorded, nothing, recorded, profile_text}
use Rattle.desk_model.specs.Desk.{file_or_none, without_manifest, View, Desk, desk, desk_of}

-- the intent that a value of the intent place is
abbrev pub intent_by : (ℕ → List ℕ) → Value → Option Intent
intent_by bytes none = None
intent_by bytes odd = None
intent_by bytes (file n) = intent_value (bytes n)

-- the set of a destination
unfoldable pub set_to : List SetRow → Spot → Option SetRow
set_to [] x = None
set_to (row ∷ rows) x = if spot_eq (spot_of row.to) x then Some row else set_to rows x

-- the save of a destination
unfoldable pub save_to : List (Place × Place) → Spot → Option (Place × Place)
save_to [] x = None
save_to (s ∷ ss) x = if spot_eq (spot_of s.1) x then Some s else save_to ss x

-- whether one of the places lies here
unfoldable pub is_one_of : List Place → Spot → Bool
is_one_of [] x = false
is_one_of (p ∷ ps) x = spot_eq (spot_of p) x || is_one_of ps x

abbrev pub file_at : (Spot → Value) → Option Place → Value
file_at values None = none
file_at values (Some p) = file_or_none (values (spot_of p))

-- its own file, or the other where it has none
abbrev pub own_or : Value → Value → Value
own_or (file n) other = file n
own_or none other = other
own_or odd other = other

-- the new value of a place, by whether it is a clear, by its set and by its save: a clear has none;
-- a set's destination has the file of its source, or none; another save's destination has its own
-- file, or that of its source
abbrev pub updated_by : (Spot → Value) → (here : Value)
    → Bool → Option SetRow → Option (Place × Place) → Value
updated_by values here true set save = none
updated_by values here false (Some row) save = file_at values row.from
updated_by values here false None (Some save) =
    own_or here (file_or_none (values (spot_of save.0)))
updated_by values here false None None = here

-- all places at once
unfoldable pub updated : Plan → (Spot → Value) → Spot → Value
updated plan values x =
    updated_by values (values x)
    (is_one_of plan.clears x) (set_to plan.sets x) (save_to plan.saves x)

abbrev pub recorded_or_none : Option Manifest → Recorded
recorded_or_none None = nothing
recorded_or_none (Some m) = recorded m

-- the folders there and those to make
abbrev pub IsThere : Disk → Plan → Spot → Type 0
IsThere d plan s = (d.folders s ≡ true) ⊎ Has plan.folders s

-- a folder to take off, below which only such folders lie then
pub record IsTakenOff (d : Disk) (plan : Plan) (s : Spot) : Type 0 where
  pub listed : Has plan.folders_off s
  pub no_value : (x : Spot) → IsBelow s x → without_manifest (updated plan d.now) x ≡ none
  pub no_folder : (x : Spot) → IsBelow s x → IsThere d plan x → Has plan.folders_off x

-- what a plan makes of a disk. No plan moves a control place, so the profile stays
abbrev pub planned : Disk → Plan → View
planned d plan = record {
  manifest = recorded_or_none plan.manifest;
  profile = profile_text d;
  values = without_manifest (updated plan d.now);
  folders = λ s. IsThere d plan s × (¬ IsTakenOff d plan s);
  bytes = d.bytes;
}

abbrev pub outcome_by : Disk → Option Intent → Desk
outcome_by d None = desk d
outcome_by d (Some intent) = desk_of (planned d intent.plan)

-- the desk that a value of the intent place leads to
abbrev pub outcome : Disk → Value → Desk
outcome d v = outcome_by d (intent_by d.bytes v)

-- the desk that recovery leads to
abbrev pub outcome_now : Disk → Desk
outcome_now d = outcome d (d.now intent_spot)
