-- What others may change between commands, and what that makes of the game folder without mods.
use Rattle.std.specs.Prelude.{◌≡◌, ◌⊎◌, ℕ, ◌==◌, Bool, true, false, if◌then◌else◌}
use Rattle.std.specs.declared.option.Option.{Option}
use Rattle.std.specs.declared.option.Option.TheVariants.{None, Some}
use Rattle.tree_fs.specs.declared.place.Root.TheVariants.{Keep}
use Rattle.tree_fs.specs.Spot.{Spot, IsBelow}
use Rattle.tree_fs.specs.Disk.{Disk, Value, none, file, odd, MayHold, IsSettled, IsValid}
use Rattle.backup_keep.specs.Places.{aside_folder}
use Rattle.manifest_json.specs.declared.manifest.Row.{Row}
use Rattle.intent_json.specs.declared.intent.Intent.{Intent}
use Rattle.desk_model.specs.Places.{Names, in_game, behind, profile_spot, IsControl}
use Rattle.desk_model.specs.Records.{rows_of, row_at, row_behind}
use Rattle.desk_model.specs.Desk.{file_or_none}
use Rattle.desk_model.specs.Outcome.{outcome_now}
use Rattle.desk_model.specs.Standing.{MayBe}
use Rattle.desk_model.specs.Mid.{IsIntentPlace}

-- a place is as it was
pub record Stays (a b : Disk) (x : Spot) : Type 0 where
  pub folder : b.folders x ≡ a.folders x
  pub now : b.now x ≡ a.now x
  pub before : b.before x ≡ a.before x

-- the files that a place may hold have their bytes
abbrev pub KeepsBytes : Disk → Disk → Spot → Type 0
KeepsBytes a b x = (n : ℕ) → MayHold a x (file n) → b.bytes n ≡ a.bytes n

-- a settled place, and where that holds a file, a firm one
pub record IsAtRest (b : Disk) (x : Spot) : Type 0 where
  pub settled : IsSettled b x
  pub firm : (n : ℕ) → b.now x ≡ file n → b.firm n ≡ true

-- an intent may stand
abbrev pub IsLive : Disk → Type 0
IsLive a = (intent : Intent) × MayBe a intent

-- what of `keep` is left to others while no intent is live
abbrev pub IsLeftToOthers : Spot → Type 0
IsLeftToOthers x = (x ≡ profile_spot) ⊎ (x ≡ aside_folder) ⊎ IsBelow aside_folder x

-- a change by others
pub record Others (a b : Disk) : Type 0 where
  -- the roots stay folders, and what else holds of every disk
  pub valid : IsValid b
  -- control places and `keep` stay, but what is left to others while no intent is live
  pub keep_stays : (x : Spot) → IsControl x ⊎ (x.root ≡ Keep) → IsLive a ⊎ (¬ IsLeftToOthers x)
      → Stays a b x
  -- so do the bytes of the files at control places
  pub control_bytes : (x : Spot) → IsControl x → IsLive a ⊎ (¬ IsLeftToOthers x)
      → KeepsBytes a b x
  -- the places of a live intent stay, and the bytes of the files there
  pub live_stays : (intent : Intent) → MayBe a intent
      → (x : Spot) → IsIntentPlace a intent.plan x → Stays a b x
  pub live_bytes : (intent : Intent) → MayBe a intent
      → (x : Spot) → IsIntentPlace a intent.plan x → KeepsBytes a b x
  -- what changed is settled and firm
  pub at_rest : (x : Spot) → Stays a b x ⊎ IsAtRest b x
  pub firm : (n : ℕ) → (b.bytes n ≡ a.bytes n) × (b.firm n ≡ a.firm n) ⊎ (b.firm n ≡ true)

-- whether two values are one
abbrev pub is_same : Value → Value → Bool
is_same none none = true
is_same odd odd = true
is_same (file m) (file n) = m == n
is_same _ _ = false

-- what is there now where the place changed, otherwise what was carried so far
abbrev pub carried : (was now so_far there : Value) → Value
carried was now so_far there = if is_same was now then so_far else there

-- what is carried for a path: at a shadowed row's path the backup place counts, at another row's
-- path and at the backup place of a shadowed row nothing changes, elsewhere the place itself counts
abbrev pub carry_by : Disk → Disk → (Names → Value) → Names → Option Row → Option Row → Value
carry_by a b P p (Some r) shadow =
    if r.shadowed
    then carried (a.now (behind p)) (b.now (behind p)) (P p) (file_or_none (b.now (behind p)))
    else P p
carry_by a b P p None (Some shadow) = P p
carry_by a b P p None None =
    carried (a.now (in_game p)) (b.now (in_game p)) (P p) (b.now (in_game p))

-- the game folder without mods after a change by others, by the rows that recovery leads to
abbrev pub carry : Disk → Disk → (Names → Value) → Names → Value
carry a b P p =
    let rows = rows_of (outcome_now a).manifest in
    carry_by a b P p (row_at rows p) (row_behind rows p)
