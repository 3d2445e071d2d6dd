-- When what is moved makes a sound plan, place by place.
use Rattle.std.specs.Prelude.{◌≡◌, ◌≢◌, ◌⊎◌, ◌↔◌, false, []}
use Rattle.std.specs.declared.option.Option.TheVariants.{None, Some}
use Rattle.tree_fs.specs.declared.name.Kind.TheVariants.{Absent}
use Rattle.tree_fs.specs.declared.place.Root.TheVariants.{Stage}
use Rattle.tree_fs.specs.Spot.{Spot, IsBelow}
use Rattle.tree_fs.specs.Disk.{Disk, none, IsFile, kind_of}
use Rattle.move_plan.specs.Places.{IsKeeping}
use Rattle.move_plan.specs.Rules.{IsFree}
use Rattle.plan_model.specs.Moves.{Move, Moves}

-- a set of x takes the file of y
pub record Takes (m : Moves) (x y : Spot) : Type 0 where
  pub move : Move
  pub set : m.sets x ≡ Some move
  pub from : move.from ≡ Some y

-- a set of x leaves the file of x at y
pub record Backs (m : Moves) (x y : Spot) : Type 0 where
  pub move : Move
  pub set : m.sets x ≡ Some move
  pub back : move.back ≡ Some y

-- a destination of a set or a save
abbrev pub IsTo : Moves → Spot → Type 0
IsTo m x = ((v : Move) × (m.sets x ≡ Some v)) ⊎ ((y : Spot) × m.saves y x)

-- the nine rules, but for the order of the lists
pub record ByRules (m : Moves) : Type 0 where
  pub free_to : (x : Spot) → IsTo m x → IsFree x
  pub free_from : (x y : Spot) → Takes m x y → IsFree y
  pub free_back : (x y : Spot) → Backs m x y → IsFree y
  pub free_above : (s x : Spot) → IsTo m x → IsBelow s x → s.names ≢ [] → IsFree s
  pub source_unset : (x y : Spot) → Takes m x y → m.sets y ≡ None
  pub save_unset : (y x : Spot) → m.saves y x → m.sets x ≡ None
  pub save_unread : (y x z : Spot) → m.saves y x → ¬ Takes m z x
  pub clear_unset : (x : Spot) → m.clears x → m.sets x ≡ None
  pub clear_keeps : (x : Spot) → m.clears x → IsKeeping x
  pub save_keeps : (y x : Spot) → m.saves y x → IsKeeping x
  pub clear_used : (x : Spot) → m.clears x → ((z : Spot) × Takes m z x) ⊎ ((y : Spot) × m.saves y x)
  pub save_back : (y x : Spot) → m.saves y x → Backs m y x
  pub back_stays : (x y : Spot) → Backs m x y
      → m.saves x y ⊎ (y.root ≡ Stage) × (m.sets y ≡ None)
  pub apart : (x y : Spot) → IsTo m x → IsTo m y → ¬ IsBelow x y
  pub clear_apart : (c x : Spot) → m.clears c → IsTo m x → ¬ IsBelow c x

-- what besides the rules makes a plan sound on the disk
pub record OnDisk (a : Disk) (m : Moves) : Type 0 where
  pub save_absent : (y x : Spot) → m.saves y x → kind_of a x ≡ Absent
  pub save_source : (y x : Spot) → m.saves y x → IsFile a y
  pub source_file : (x y : Spot) → Takes m x y → IsFile a y
  pub back_same : (x y : Spot) → Backs m x y
      → m.saves x y ⊎ (IsFile a x × (a.now y ≡ a.now x))
  pub back_none : (x : Spot) (v : Move) → m.sets x ≡ Some v
      → (v.back ≡ None ↔ kind_of a x ≡ Absent)
  pub parent_free : (s x : Spot) → IsTo m x → IsBelow s x → a.folders s ≡ false → a.now s ≡ none
