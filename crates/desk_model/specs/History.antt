-- Histories: calls, stops, and changes by others.
use Rattle.std.specs.Prelude.{◌≡◌, List, ◌++◌}
use Rattle.tree_fs.specs.declared.op.Op.{Op}
use Rattle.tree_fs.specs.Disk.{Disk, Value, Image, after_all}
use Rattle.desk_model.specs.Places.{Names}
use Rattle.desk_model.specs.Desk.{desk}
use Rattle.desk_model.specs.Outcome.{outcome_now}
use Rattle.desk_model.specs.Standing.{Invariant, AtRest}
use Rattle.desk_model.specs.Others.{Others, carry}

-- a history that ends in a disk; `Runs` says which steps a call may add there
pub data History (Runs : Disk → List Op → Type 0) : Disk → Type 0 where
  begins : (d : Disk) → AtRest d → History Runs d
  called : (a : Disk) → History Runs a → (ops : List Op) → Runs a ops
      → History Runs (after_all a ops)
  stopped_in_call : (a : Disk) → History Runs a → (ops more : List Op) → Runs a (ops ++ more)
      → (left : Disk) → Image (after_all a ops) left → History Runs left
  stopped_between : (a : Disk) → History Runs a → (left : Disk) → Image a left → History Runs left
  changed : (a : Disk) → History Runs a → (b : Disk) → Others a b → History Runs b

-- the game folder without mods as the user left it: that of the first disk, carried through each
-- change by others
abbrev pub left : (Runs : Disk → List Op → Type 0) (d : Disk) → History Runs d → Names → Value
left Runs _ (begins d rest) = (desk d).plain
left Runs _ (called a h ops runs) = left Runs a h
left Runs _ (stopped_in_call a h ops more runs i image) = left Runs a h
left Runs _ (stopped_between a h i image) = left Runs a h
left Runs _ (changed a h b others) = carry a b (left Runs a h)

-- a call keeps the invariant, and the game folder without mods that recovery leads to
pub record KeepsPlain (a b : Disk) : Type 0 where
  pub invariant : Invariant b
  pub plain : (outcome_now b).plain ≡ (outcome_now a).plain

-- each call keeps them, after each of its steps
abbrev pub CallsKeep : (Disk → List Op → Type 0) → Type 0
CallsKeep Runs =
    (a : Disk) (ops more : List Op) → Invariant a → Runs a (ops ++ more)
    → KeepsPlain a (after_all a ops)

-- what holds at the end of a history: the invariant, and recovery leads to the game folder without
-- mods as the user left it
pub record Follows (Runs : Disk → List Op → Type 0) (d : Disk) (h : History Runs d) : Type 0 where
  pub invariant : Invariant d
  pub plain : (outcome_now d).plain ≡ left Runs d h

-- it holds of every history whose calls keep the invariant
abbrev pub HistoriesFollow : Type 1
HistoriesFollow =
    (Runs : Disk → List Op → Type 0) → CallsKeep Runs
    → (d : Disk) (h : History Runs d) → Follows Runs d h
