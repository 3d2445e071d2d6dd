-- The entries of a plan, in the order in which a rule looks at them.
use Rattle.std.specs.Prelude.{ℕ, ◌+◌, List, [], ◌∷◌, ◌++◌}
use Rattle.std.specs.declared.option.Option.{Option}
use Rattle.std.specs.declared.option.Option.TheVariants.{None, Some}
use Rattle.tree_fs.specs.declared.place.Place.{Place}
use Rattle.move_plan.specs.declared.plan.SetRow.{SetRow}
use Rattle.move_plan.specs.declared.plan.Plan.{Plan}

pub data Entry : Type 0 where
  folder : Place → Entry
  save : Place × Place → Entry
  set : SetRow → Entry
  clear : Place → Entry
  off : Place → Entry

-- the place by which an entry stands in its list: for a save and a set the destination
abbrev pub key_of : Entry → Place
key_of (folder p) = p
key_of (save s) = s.1
key_of (set row) = row.to
key_of (clear p) = p
key_of (off p) = p

-- an entry as it stands in its list: its index there, and the place of the entry in front of it
pub record Listed : Type 0 where
  pub index : ℕ
  pub front : Option Place
  pub entry : Entry

-- the entries of a list, where the next index is i
abbrev pub listed : {A : Type 0} → (A → Entry) → ℕ → Option Place → List A → List Listed
listed to i front [] = []
listed to i front (x ∷ xs) =
    record { index = i; front = front; entry = to x } ∷ listed to (i + 1) (Some (key_of (to x))) xs

-- all entries
abbrev pub entries : Plan → List Listed
entries plan =
    listed folder 0 None plan.folders
    ++ (listed save 0 None plan.saves
    ++ (listed set 0 None plan.sets
    ++ (listed clear 0 None plan.clears
    ++ listed off 0 None plan.folders_off)))
