-- Types of mods in a document.
use Rattle.std.specs.Prelude.{ℕ, List, Option, None, Some, map, codes, nat_eq}
use Rattle.std.specs.Option.{option_or}
use Rattle.std.specs.List.{list_any}
use Rattle.std.specs.Cmp.Lexicographic.{pointwise}
use Rattle.toml.specs.Data.{Data, array, table, Members, get_member}
use Rattle.profile_toml.specs.declared.error.ProfileError.{ProfileError}
use Rattle.profile_toml.specs.declared.error.ProfileError.TheVariants.{Shape, SameType}
use Rattle.profile_toml.specs.Faults.{fault_if, keyed_fault}
use Rattle.profile_toml.specs.KeyPaths.{keyed, indexed}
use Rattle.profile_toml.specs.Tables.{OfType}
use Rattle.profile_toml.specs.Texts.{members_in, list_of, items_at, id_in, text_at, text_fault, bad_id, bad_base}
use Rattle.profile_toml.specs.Unknown.{unknown_in}
use Rattle.profile_toml.specs.Records.{TypeData}

-- the first fault of the type at a key path, where types with the ids `earlier` stand before it
abbrev pub type_fault : List (List ℕ) → List ℕ → Data → Option ProfileError
type_fault earlier at (table ms) =
    let id = get_member (codes "id") ms in
    option_or (text_fault bad_id (keyed at (codes "id")) id)
    (option_or (fault_if (list_any (pointwise nat_eq (text_at id)) earlier) (SameType (text_at id)))
    (text_fault bad_base (keyed at (codes "base")) (get_member (codes "base") ms)))
type_fault earlier at _ = Some (Shape at)

-- the type, where it has no fault
abbrev pub type_value : Data → TypeData
type_value d = record {
  id = id_in d;
  base = text_at (get_member (codes "base") (members_in d));
  extra = unknown_in 2 OfType (members_in d);
}

-- the type with its id
abbrev pub type_entry : Data → List ℕ × TypeData
type_entry d = (id_in d, type_value d)

-- the first fault of these types
abbrev pub list_fault : List Data → Option ProfileError
list_fault ds =
    keyed_fault (λ earlier i d. type_fault earlier (indexed (codes "types") i) d) id_in ds

-- the first fault of the types, which may be missing, and else the types
abbrev pub types_fault : Option Data → Option ProfileError
types_fault None = None
types_fault (Some (array ds)) = list_fault (list_of ds)
types_fault _ = Some (Shape (codes "types"))

abbrev pub types_value : Option Data → List TypeData
types_value d = map type_value (items_at d)
