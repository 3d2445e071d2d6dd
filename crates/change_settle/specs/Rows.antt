-- The rows that are left, and the files that are read anew for them.
use Rattle.std.specs.Prelude.{◌≡◌, List, [], ◌∷◌}
use Rattle.std.specs.List.{cons_option}
use Rattle.std.specs.declared.option.Option.{Option}
use Rattle.std.specs.declared.option.Option.TheVariants.{None, Some}
use Rattle.tree_fs.specs.Spot.{Spot}
use Rattle.tree_fs.specs.Disk.{Disk, IsFile}
use Rattle.manifest_json.specs.declared.manifest.Row.{Row}
use Rattle.desk_model.specs.Settled.{Deed}
use Rattle.change_settle.specs.Tasks.{Step, step_emptied, file_spot}

-- a row keeps all but its digest
pub record Renews (r made : Row) : Type 0 where
  pub path : made.path ≡ r.path
  pub mod_id : made.mod_id ≡ r.mod_id
  pub source : made.source ≡ r.source
  pub shadowed : made.shadowed ≡ r.shadowed

-- what is left of a row
abbrev pub IsLeft : Row → Option Row → Type 0
IsLeft r None = Unit {0}
IsLeft r (Some made) = Renews r made

-- what is left of rows
abbrev pub AreLeft : (rows left : List Row) → Type 0
AreLeft [] left = left ≡ []
AreLeft (r ∷ rows) left =
    (o : Option Row) × (rest : List Row) × IsLeft r o × (left ≡ cons_option o rest)
    × AreLeft rows rest

-- the file is there
abbrev pub HasItsFile : Disk → Row × Deed → Type 0
HasItsFile a t = (x : Spot) → file_spot t.0 t.1 ≡ Some x → IsFile a x

-- a file is at the path at which its row leaves none
abbrev pub EmptiesFile : Disk → Step → Type 0
EmptiesFile a s = (x : Spot) → step_emptied s ≡ Some x → IsFile a x
