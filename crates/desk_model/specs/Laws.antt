-- The laws of these definitions, as claims.
use Rattle.std.specs.Prelude.{◌≡◌, ℕ, true, if◌then◌else◌, List}
use Rattle.std.specs.List.{Contains}
use Rattle.std.specs.declared.option.Option.{Option}
use Rattle.std.specs.declared.option.Option.TheVariants.{None}
use Rattle.tree_fs.specs.declared.op.Op.{Op}
use Rattle.tree_fs.specs.declared.place.Root.TheVariants.{Keep}
use Rattle.tree_fs.specs.Spot.{root_spot}
use Rattle.tree_fs.specs.Places.{game_spot}
use Rattle.tree_fs.specs.Disk.{Disk, Value, MayHold, IsSettled, IsValid, Image, put, synced, after}
use Rattle.tree_fs.specs.Frames.{Fewer, IsGentle}
use Rattle.backup_keep.specs.Places.{aside_spot}
use Rattle.backup_keep.specs.Asides.{IsNextAside}
use Rattle.manifest_json.specs.Apart.{HasApartSources}
use Rattle.manifest_json.specs.Sound.{AreRows}
use Rattle.manifest_json.specs.declared.manifest.Row.{Row}
use Rattle.move_plan.specs.declared.plan.Plan.{Plan}
use Rattle.desk_model.specs.Places.{Names, in_aside, profile_spot, intent_spot}
use Rattle.desk_model.specs.Records.{rows_on, staged_names}
use Rattle.desk_model.specs.Desk.{desk, SameDesk}
use Rattle.desk_model.specs.Deployed.{Win, Deployed}
use Rattle.desk_model.specs.Settled.{Choice, IsAllowed, deed_of, restages, sets_staged_aside, Settled}
use Rattle.desk_model.specs.Purged.{Purged}
use Rattle.desk_model.specs.Edited.{Edited}
use Rattle.desk_model.specs.Outcome.{outcome, outcome_now}
use Rattle.desk_model.specs.Standing.{IsOpen, Standing, Invariant, AtRest}
use Rattle.desk_model.specs.Mid.{Mid}
use Rattle.desk_model.specs.Others.{Others, carry}
use Rattle.change_detect.specs.Classes.{staged_of, class_of}

-- at rest the invariant holds
abbrev pub RestStands : Type 0
RestStands = (d : Disk) → AtRest d → Invariant d

-- where places may hold less, a disk that stands still does
abbrev pub FewerStand : Type 0
FewerStand = (e d : Disk) → Fewer e d → IsValid e → Standing d → Standing e

-- every image of a standing disk stands
abbrev pub ImagesStand : Type 0
ImagesStand = (d left : Disk) → Standing d → Image d left → Standing left

-- where the profile's place is settled, an image has the outcome that its value of the intent place
-- has on the disk
abbrev pub ImagesAgree : Type 0
ImagesAgree =
    (d left : Disk) → Standing d → IsSettled d profile_spot → Image d left
    → SameDesk (outcome_now left) (outcome d (left.now intent_spot))

-- a gentle step from a standing disk to a standing one keeps the outcome of each value that the
-- intent place may have on both
abbrev pub StepsAgree : Type 0
StepsAgree =
    (d : Disk) (op : Op) → IsGentle d op → Standing d → Standing (after d op)
    → IsSettled d profile_spot → IsSettled (after d op) profile_spot
    → (v : Value) → MayHold d intent_spot v → MayHold (after d op) intent_spot v
    → SameDesk (outcome (after d op) v) (outcome d v)

-- where the disk with one more value of the intent place stands, so does the one without it, with
-- the outcomes of its values; and the one on which the new value is left alone, with that value's
-- outcome
pub record IntentChanges (d : Disk) (v : Value) : Type 0 where
  pub before : Standing d
  pub agree : (w : Value) → MayHold d intent_spot w
      → SameDesk (outcome d w) (outcome (put d intent_spot v) w)
  pub alone : Standing (synced (put d intent_spot v) (root_spot Keep))
  pub agrees : SameDesk (outcome_now (synced (put d intent_spot v) (root_spot Keep)))
      (outcome (put d intent_spot v) v)

abbrev pub IntentsChange : Type 0
IntentsChange =
    (d : Disk) (v : Value) → IsValid d → IsSettled d profile_spot
    → Standing (put d intent_spot v) → IntentChanges d v

-- a stop, and fewer values, keep what has been carried out of a plan
abbrev pub MidIsKept : Type 0
MidIsKept = (a : Disk) (plan : Plan) (e d : Disk) → Fewer e d → Mid a plan d → Mid a plan e

abbrev pub ImagesKeepMid : Type 0
ImagesKeepMid =
    (a : Disk) (plan : Plan) (d left : Disk) → IsValid d → Image d left
    → Mid a plan d → Mid a plan left

-- a stop keeps what every step of a history keeps
abbrev pub StopsKeep : Type 0
StopsKeep = (d left : Disk) → Invariant d → Image d left → Invariant left

-- and the game folder without mods that recovery leads to
abbrev pub StopsKeepPlain : Type 0
StopsKeepPlain =
    (d left : Disk) → Standing d → Image d left → (outcome_now left).plain ≡ (outcome_now d).plain

-- so does a change by others
abbrev pub OthersKeep : Type 0
OthersKeep = (a b : Disk) → Invariant a → Others a b → Invariant b

-- which makes of that game folder what is carried
abbrev pub OthersCarry : Type 0
OthersCarry =
    (a b : Disk) → Standing a → Others a b → (p : Names)
    → carry a b (outcome_now a).plain p ≡ (outcome_now b).plain p

-- what a settlement leaves of a row's staged file
pub record IsRestaged (a b : Disk) (choice : Choice) (r : Row) : Type 0 where
  -- at the staged place: the found file, or the one that was there
  pub staged : (desk b).staged (staged_names r)
      ≡ (if restages (deed_of choice a r) then a.now (game_spot r.path) else a.now (staged_of r))
  -- where that one goes, it stands aside
  pub aside : (n : ℕ) → IsNextAside a n → sets_staged_aside (deed_of choice a r) ≡ true
      → (p : Names) → in_aside p ≡ aside_spot n (staged_of r)
      → (desk b).aside p ≡ a.now (staged_of r)

-- a settlement does so for each row of a manifest with sources apart
abbrev pub SettledRestages : Type 0
SettledRestages =
    (a b : Disk) (choice : Choice) → HasApartSources (rows_on a) → Settled a choice (desk b)
    → (r : Row) → Contains (rows_on a) r → IsRestaged a b choice r

-- the two places of each row have a file or nothing
abbrev pub HasOpenRows : Disk → Type 0
HasOpenRows a =
    (r : Row) → Contains (rows_on a) r → IsOpen a (game_spot r.path) × IsOpen a (staged_of r)

-- then after a settlement by allowed actions every row is clean
abbrev pub SettledIsClean : Type 0
SettledIsClean =
    (a b : Disk) (choice : Choice) → AreRows (rows_on a) → HasOpenRows a → IsAllowed choice
    → IsValid b → Settled a choice (desk b)
    → (r : Row) → Contains (rows_on b) r → class_of b r ≡ None

-- what a deployment, a settlement, a purge and an edit lead to is one desk each
abbrev pub DeployedOnce : Type 0
DeployedOnce =
    (a b c : Disk) (wins : List Win) → Deployed a wins (desk b) → Deployed a wins (desk c)
    → SameDesk (desk b) (desk c)

abbrev pub SettledOnce : Type 0
SettledOnce =
    (a b c : Disk) (choice : Choice) → Settled a choice (desk b) → Settled a choice (desk c)
    → SameDesk (desk b) (desk c)

abbrev pub PurgedOnce : Type 0
PurgedOnce = (a b c : Disk) → Purged a (desk b) → Purged a (desk c) → SameDesk (desk b) (desk c)

abbrev pub EditedOnce : Type 0
EditedOnce =
    (a b c : Disk) (text : Option (List ℕ)) → Edited a text (desk b) → Edited a text (desk c)
    → SameDesk (desk b) (desk c)
