-- When a plan may be carried out, and why it isn't, or not to its end.
use Rattle.std.specs.Prelude.{◌≡◌, ℕ}
use Rattle.std.specs.declared.option.Option.{Option}
use Rattle.std.specs.declared.option.Option.TheVariants.{None, Some}
use Rattle.tree_fs.specs.Spot.{Spot, IsBelow}
use Rattle.tree_fs.specs.Disk.{Disk}
use Rattle.manifest_json.specs.declared.manifest.Manifest.{Manifest}
use Rattle.move_plan.specs.declared.plan.Plan.{Plan}
use Rattle.move_plan.specs.Idle.{IsIdle}
use Rattle.move_plan.specs.Places.{Has, IsDestination}
use Rattle.move_plan.specs.Rules.{IsFirstFault}
use Rattle.move_plan.specs.Sound.{SoundPlan}
use Rattle.intent_json.specs.Forms.{set_form}
use Rattle.intent_journal.specs.declared.error.ReadyError.TheVariants as ready
use Rattle.intent_journal.specs.Lengths.{length_fault}
use Rattle.desk_model.specs.Records.{manifest_of}
use Rattle.desk_model.specs.Desk.{desk}
use Rattle.desk_model.specs.Outcome.{outcome_by, recorded_or_none}
use Rattle.plan_run.specs.declared.error.RunError.{RunError}
use Rattle.plan_run.specs.declared.error.RunError.TheVariants.{TooLong, Unsound, SourceGone, Blocked, Failed, Memory}
use Rattle.plan_run.specs.Quiet.{IsQuiet}

-- a destination of a plan that lies below a place
pub record IsAbove (plan : Plan) (s : Spot) : Type 0 where
  pub place : Spot
  pub to : IsDestination plan place
  pub below : IsBelow s place

-- a plan may be carried out over the manifest that is there: the disk is quiet, the plan is sound
-- on it, makes no folder but above destinations, and leads to the plain game folder that is there
pub record CanRun (plan : Plan) (there : Option Manifest) (a : Disk) : Type 0 where
  pub quiet : IsQuiet a
  pub is_there : manifest_of a ≡ recorded_or_none there
  pub sound : SoundPlan a plan
  pub needed : (s : Spot) → Has plan.folders s → IsAbove plan s
  pub one_plain : (outcome_by a (Some (set_form plan))).plain ≡ (desk a).plain

-- the text of its intent isn't too long
abbrev pub Fits : Plan → ℕ → Type 0
Fits plan most = length_fault plan most ≡ None

-- why a plan can't be made ready. Want of memory may come anywhere
abbrev pub IsReadyFault : Plan → ℕ → RunError → Type 0
IsReadyFault plan most (TooLong n) = length_fault plan most ≡ Some (ready.TooLong n)
IsReadyFault plan most (Unsound fault) = IsFirstFault plan fault.rule fault.index
IsReadyFault plan most (SourceGone place) = ⊥
IsReadyFault plan most (Blocked place) = ⊥
IsReadyFault plan most Failed = ⊥
IsReadyFault plan most Memory = Unit {0}

-- why a plan isn't carried out, or not to its end: it can't be made ready, or it is, and fails then
abbrev pub IsFault : Plan → ℕ → RunError → Type 0
IsFault plan most (TooLong n) = length_fault plan most ≡ Some (ready.TooLong n)
IsFault plan most (Unsound fault) = IsFirstFault plan fault.rule fault.index
IsFault plan most (SourceGone place) = Fits plan most
IsFault plan most (Blocked place) = Fits plan most
IsFault plan most Failed = Fits plan most
IsFault plan most Memory = Unit {0}

-- an idle plan never fails
abbrev pub IsRunError : Plan → Option Manifest → ℕ → RunError → Type 0
IsRunError plan there most e = (¬ IsIdle plan there) × IsFault plan most e

-- nothing has been begun
abbrev pub IsUnbegun : RunError → Type 0
IsUnbegun (TooLong n) = Unit {0}
IsUnbegun (Unsound fault) = Unit {0}
IsUnbegun (SourceGone place) = ⊥
IsUnbegun (Blocked place) = ⊥
IsUnbegun Failed = ⊥
IsUnbegun Memory = ⊥

-- what a sound plan may meet: too long a text, a fault of the tree, want of memory
abbrev pub CanCome : RunError → Type 0
CanCome (TooLong n) = Unit {0}
CanCome (Unsound fault) = ⊥
CanCome (SourceGone place) = ⊥
CanCome (Blocked place) = ⊥
CanCome Failed = Unit {0}
CanCome Memory = Unit {0}
