-- What every step of a history keeps.
use Rattle.std.specs.Prelude.{◌≡◌, ◌⊎◌, ℕ, ◌<◌, true, false}
use Rattle.std.specs.List.{Contains}
use Rattle.std.specs.declared.option.Option.TheVariants.{Some}
use Rattle.tree_fs.specs.declared.place.Place.{Place}
use Rattle.tree_fs.specs.Spot.{Spot, spot_of, IsBelow}
use Rattle.tree_fs.specs.Disk.{Disk, Value, none, file, odd, MayHold, IsSettled, HoldsOnly, NothingPending, IsValid}
use Rattle.tree_fs.specs.Calls.{IsFolder}
use Rattle.move_plan.specs.declared.plan.Plan.{Plan}
use Rattle.move_plan.specs.Places.{Has, IsSetTo, IsSetFrom, IsSaveTo, IsDestination, IsClear}
use Rattle.intent_json.specs.declared.intent.Intent.{Intent}
use Rattle.intent_json.specs.declared.intent.Phase.TheVariants as phase
use Rattle.intent_json.specs.Accepted.{IsAccepted}
use Rattle.desk_model.specs.Places.{manifest_spot, intent_spot, IsTemp, IsKeepEntry}
use Rattle.desk_model.specs.Desk.{SameDeskBut}
use Rattle.desk_model.specs.Outcome.{intent_by, outcome}

-- a settled file
pub record IsSettledFile (d : Disk) (x : Spot) : Type 0 where
  pub number : ℕ
  pub only : HoldsOnly d x (file number)

-- a save that is begun: its source is a settled file, and its destination has none or that file
pub record IsBegun (d : Disk) (from to : Spot) : Type 0 where
  pub number : ℕ
  pub source : HoldsOnly d from (file number)
  pub either : (v : Value) → MayHold d to v → (v ≡ none) ⊎ (v ≡ file number)

-- nothing odd is or may be there, and no folder
pub record IsOpen (d : Disk) (x : Spot) : Type 0 where
  pub not_odd : ¬ MayHold d x odd
  pub no_folder : d.folders x ≡ false

-- the saves run: the sets' destinations are settled, and each save is done or begun
pub record SavesRun (d : Disk) (plan : Plan) : Type 0 where
  pub sets : (x : Spot) → IsSetTo plan x → IsSettled d x
  pub saves : (s : Place × Place) → Contains plan.saves s
      → IsSettledFile d (spot_of s.1) ⊎ IsBegun d (spot_of s.0) (spot_of s.1)

-- the saves are done
abbrev pub SavesDone : Disk → Plan → Type 0
SavesDone d plan = (x : Spot) → IsSaveTo plan x → IsSettledFile d x

-- the set form of a plan may stand
pub record SetStands (d : Disk) (plan : Plan) : Type 0 where
  -- each set's source is a settled file
  pub sources : (x : Spot) → IsSetFrom plan x → IsSettledFile d x
  -- no destination or clear is odd or a folder
  pub open_places : (x : Spot) → IsDestination plan x ⊎ IsClear plan x → IsOpen d x
  -- each folder to make is a folder, or has no file or odd value
  pub made : (x : Spot) → Has plan.folders x → IsFolder d x ⊎ HoldsOnly d x none
  -- each other parent of a destination or of a folder to make is a folder
  pub parents : (x s : Spot) → IsDestination plan x ⊎ Has plan.folders x → IsBelow s x
      → Has plan.folders s ⊎ IsFolder d s
  -- first the saves run, then the sets
  pub steps : SavesRun d plan ⊎ SavesDone d plan
  -- every other place is settled, but for the direct entries of `keep`
  pub rest : (x : Spot) → ¬ IsDestination plan x → ¬ IsKeepEntry x → IsSettled d x

-- the clear form of a plan may stand
pub record ClearStands (d : Disk) (plan : Plan) : Type 0 where
  -- no clear is odd or a folder
  pub open_places : (x : Spot) → IsClear plan x → IsOpen d x
  -- every other place is settled, but for the manifest and the direct entries of `keep`
  pub rest : (x : Spot) → ¬ IsClear plan x → ¬ (x ≡ manifest_spot) → ¬ IsKeepEntry x → IsSettled d x

-- no intent may stand
abbrev pub NoneStands : Disk → Type 0
NoneStands d = (x : Spot) → ¬ IsKeepEntry x → IsSettled d x

-- the value of the intent place may be this intent
abbrev pub MayBe : Disk → Intent → Type 0
MayBe d intent = (v : Value) × MayHold d intent_spot v × (intent_by d.bytes v ≡ Some intent)

-- what holds of an intent that may be there
pub record IntentStands (d : Disk) (intent : Intent) : Type 0 where
  pub accepted : IsAccepted intent
  pub set_form : intent.phase ≡ phase.Set → SetStands d intent.plan
  pub clear_form : intent.phase ≡ phase.Clear → ClearStands d intent.plan

pub record Standing (d : Disk) : Type 0 where
  -- the roots are folders, and what else holds of every disk
  pub valid : IsValid d
  -- a file that isn't firm is a value of temps alone
  pub firm : (x : Spot) (n : ℕ) → MayHold d x (file n) → d.firm n ≡ false → IsTemp x
  -- each value of the intent place is none or an intent
  pub known : (v : Value) → MayHold d intent_spot v
      → (v ≡ none) ⊎ ((intent : Intent) × (intent_by d.bytes v ≡ Some intent))
  -- where it may be none, every place is settled but the direct entries of `keep`
  pub absent : MayHold d intent_spot none → NoneStands d
  -- where it may be an intent, that is an accepted one, whose form may stand
  pub intents : (intent : Intent) → MayBe d intent → IntentStands d intent
  -- the outcomes of any two values have one plain game folder
  pub one_plain : (v w : Value) → MayHold d intent_spot v → MayHold d intent_spot w
      → (outcome d v).plain ≡ (outcome d w).plain
  -- a clear form's outcome is that of every other value, but for its folders to take off
  pub one_outcome : (v w : Value) (intent : Intent)
      → MayHold d intent_spot v → MayHold d intent_spot w
      → intent_by d.bytes v ≡ Some intent → intent.phase ≡ phase.Clear
      → SameDeskBut (Has intent.plan.folders_off) (outcome d v) (outcome d w)

-- what another live intent takes off, a clear form takes off too: the two forms of one plan have
-- one list
abbrev pub OffAgrees : Disk → Type 0
OffAgrees d =
    (clear other : Intent) → MayBe d clear → MayBe d other → clear.phase ≡ phase.Clear
    → (s : Spot) → Has other.plan.folders_off s → Has clear.plan.folders_off s

-- what every step of a history keeps
pub record Invariant (d : Disk) : Type 0 where
  pub standing : Standing d
  pub off : OffAgrees d

-- a disk at which a history may begin: no intent is there, nothing is pending, each file is firm
pub record AtRest (d : Disk) : Type 0 where
  pub valid : IsValid d
  pub no_intent : d.now intent_spot ≡ none
  pub settled : NothingPending d
  pub firm : (n : ℕ) → n < d.fresh → d.firm n ≡ true
