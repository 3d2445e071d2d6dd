-- What the steps of a plan leave, and what they leave as it was.
use Rattle.std.specs.Prelude.{◌≡◌, ◌⊎◌}
use Rattle.std.specs.declared.option.Option.TheVariants.{None, Some}
use Rattle.rel_paths.specs.declared.control.Control.{Control}
use Rattle.rel_paths.specs.declared.control.Control.TheVariants as control
use Rattle.tree_fs.specs.declared.name.Kind.TheVariants.{Absent}
use Rattle.tree_fs.specs.declared.op.Op.{Op}
use Rattle.tree_fs.specs.Spot.{Spot}
use Rattle.tree_fs.specs.Texts.{control_spot}
use Rattle.tree_fs.specs.Disk.{Disk, Value, MayHold, IsSettled, kind_of}
use Rattle.tree_fs.specs.Story.{Story, disk_of, with_ops}
use Rattle.std.specs.Prelude.{List}
use Rattle.move_plan.specs.declared.plan.Plan.{Plan}
use Rattle.move_plan.specs.Sound.{SoundPlan}
use Rattle.intent_json.specs.Forms.{set_form, clear_form}
use Rattle.intent_journal.specs.Forms.{Reads}
use Rattle.intent_journal.specs.declared.temp.Temp.{Temp}
use Rattle.intent_journal.specs.declared.temp.Temp.TheVariants as temp
use Rattle.intent_journal.specs.Temps.{temp_spot}
use Rattle.desk_model.specs.Places.{manifest_spot, intent_spot}
use Rattle.desk_model.specs.Records.{manifest_of}
use Rattle.desk_model.specs.Desk.{Desk, desk, SameDesk}
use Rattle.desk_model.specs.Outcome.{outcome_by, outcome_now, recorded_or_none}
use Rattle.desk_model.specs.Standing.{Standing}
use Rattle.desk_model.specs.Stops.{OldOrNew}
use Rattle.plan_exec.specs.Steps.{ClearsReady, ClearsDone}
use Rattle.plan_exec.specs.TakingOff.{OffDone}

-- the manifest is the plan's, and settled; its temp is gone, and settled too
pub record ManifestDone (plan : Plan) (d : Disk) : Type 0 where
  pub is : manifest_of d ≡ recorded_or_none plan.manifest
  pub settled : IsSettled d manifest_spot
  pub gone : kind_of d (temp_spot temp.Manifest) ≡ Absent
  pub temp_settled : IsSettled d (temp_spot temp.Manifest)

-- at each control place, but for some, stands what stood there
abbrev pub SameControls : (Control → Type 0) → Disk → Disk → Type 0
SameControls free a e =
    (which : Control) → ¬ free which
    → kind_of e (control_spot which) ≡ kind_of a (control_spot which)

abbrev pub NoControl : Control → Type 0
NoControl which = ⊥

-- the manifest and its temp
abbrev pub IsOfManifest : Control → Type 0
IsOfManifest which = (which ≡ control.Manifest) ⊎ (which ≡ control.ManifestTemp)

-- the intent and its temp
abbrev pub IsOfIntent : Control → Type 0
IsOfIntent which = (which ≡ control.Intent) ⊎ (which ≡ control.IntentTemp)

-- each value of the intent place is none or a form of this plan
abbrev pub HasForms : Plan → Disk → Type 0
HasForms plan d = (v : Value) → MayHold d intent_spot v
    → Reads d.bytes v None
    ⊎ Reads d.bytes v (Some (set_form plan))
    ⊎ Reads d.bytes v (Some (clear_form plan))

-- all is done but to take the clear form away
pub record CanEnd (plan : Plan) (d : Disk) : Type 0 where
  pub ready : ClearsReady plan d
  pub manifest : ManifestDone plan d
  pub clears : ClearsDone plan d
  pub off : OffDone plan.folders_off d

-- there is no temp
abbrev pub NoTemps : Disk → Type 0
NoTemps d = (which : Temp) → kind_of d (temp_spot which) ≡ Absent

-- the desk is that to which recovery led; the disk stands with nothing pending, without an intent
-- and without temps
pub record IsEnd (a e : Disk) : Type 0 where
  pub desk : SameDesk (desk e) (outcome_now a)
  pub standing : Standing e
  pub settled : (x : Spot) → IsSettled e x
  pub no_intent : kind_of e intent_spot ≡ Absent
  pub no_temps : NoTemps e

-- a plan may be carried out: it is sound on this disk, which stands with nothing pending, without
-- an intent and without temps; and what it leads to has the plain game folder that is there
pub record CanExecute (plan : Plan) (a : Disk) : Type 0 where
  pub sound : SoundPlan a plan
  pub standing : Standing a
  pub settled : (x : Spot) → IsSettled a x
  pub no_intent : kind_of a intent_spot ≡ Absent
  pub no_temps : NoTemps a
  pub one_plain : (outcome_by a (Some (set_form plan))).plain ≡ (desk a).plain

-- a desk that the plan leads to
abbrev pub IsPlanned : Disk → Plan → Desk → Type 0
IsPlanned a plan k = SameDesk k (outcome_by a (Some (set_form plan)))

-- the desk of a disk, or a new one
abbrev pub IsOldOr : Disk → (Desk → Type 0) → Desk → Type 0
IsOldOr a new k = SameDesk k (desk a) ⊎ new k

-- the plan is carried out: the desk is the plan's outcome; the disk stands with nothing pending,
-- without an intent and without temps
pub record Executed (plan : Plan) (a e : Disk) : Type 0 where
  pub desk : IsPlanned a plan (desk e)
  pub standing : Standing e
  pub settled : (x : Spot) → IsSettled e x
  pub no_intent : kind_of e intent_spot ≡ Absent
  pub no_temps : NoTemps e

-- every stop of what was done leads to the old desk or a new one
pub record StopsOldOrNew (new : Desk → Type 0) (from to : Story) : Type 0 where
  pub ops : List Op
  pub goes_on : to ≡ with_ops from ops
  pub each : OldOrNew (disk_of from) new ops
