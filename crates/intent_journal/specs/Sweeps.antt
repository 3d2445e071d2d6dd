-- What a command begins with: old temps are taken away, and `keep` is settled.
use Rattle.std.specs.Prelude.{◌≡◌, ◌⊎◌, Bool, true, false, if◌then◌else◌, List, [], ◌∷◌, ◌++◌, None, Some}
use Rattle.rel_paths.specs.Controls.{control_path}
use Rattle.tree_fs.specs.declared.name.Kind.{Kind}
use Rattle.tree_fs.specs.declared.name.Kind.TheVariants.{Absent, File, Folder, Other}
use Rattle.tree_fs.specs.declared.op.Op.{Op}
use Rattle.tree_fs.specs.declared.op.Op.TheVariants.{Unlink, SyncFolder}
use Rattle.tree_fs.specs.declared.place.Place.{Place}
use Rattle.tree_fs.specs.declared.place.Root.{Root}
use Rattle.tree_fs.specs.declared.place.Root.TheVariants.{Keep}
use Rattle.tree_fs.specs.Spot.{Spot}
use Rattle.tree_fs.specs.Disk.{Disk, Value, none, MayHold, IsValid, Image, kind_of}
use Rattle.tree_fs.specs.Frames.{SameFiles}
use Rattle.desk_model.specs.Places.{IsTemp}
use Rattle.desk_model.specs.Desk.{SameDesk}
use Rattle.desk_model.specs.Outcome.{outcome_now}
use Rattle.intent_journal.specs.declared.temp.Temp.{Temp}
use Rattle.intent_journal.specs.declared.temp.Temp.TheVariants.{Intent, Manifest, Profile}
use Rattle.intent_journal.specs.Temps.{temp_control, temp_spot}

-- the place of a temp, and that of a root
abbrev pub temp_at : Temp → Place
temp_at which = record { root = Keep; rel = Some (control_path (temp_control which)) }

abbrev pub root_at : Root → Place
root_at root = record { root = root; rel = None }

abbrev pub is_file : Kind → Bool
is_file File = true
is_file Absent = false
is_file Folder = false
is_file Other = false

-- the step that takes a temp away where it is a file
abbrev pub clear_ops : Disk → Temp → List Op
clear_ops d which =
    if is_file (kind_of d (temp_spot which)) then Unlink (temp_at which) true ∷ [] else []

-- the temps that are files are taken away
abbrev pub clear_all_ops : Disk → List Op
clear_all_ops d = clear_ops d Intent ++ (clear_ops d Manifest ++ clear_ops d Profile)

-- then `keep` is synced
abbrev pub sweep_ops : Disk → List Op
sweep_ops d = clear_all_ops d ++ SyncFolder (root_at Keep) true ∷ []

-- temps may have got none, and nothing else has changed but that places may hold less
pub record Sweeps (a e : Disk) : Type 0 where
  pub valid : IsValid e
  pub files : SameFiles a e
  pub held : (x : Spot) (v : Value) → ¬ IsTemp x → MayHold e x v → MayHold a x v
  pub now : (x : Spot) → ¬ IsTemp x → e.now x ≡ a.now x
  pub temps : (x : Spot) (v : Value) → IsTemp x → MayHold e x v → MayHold a x v ⊎ (v ≡ none)

-- each stop leaves what some stop of the other disk leads to
abbrev pub LeadsLikeAStop : Disk → Disk → Type 0
LeadsLikeAStop a e =
    (left : Disk) → Image e left
    → (before : Disk) × Image a before × SameDesk (outcome_now left) (outcome_now before)
