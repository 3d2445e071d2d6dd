-- Members that have to be texts, and the parts of a value.
use Rattle.std.specs.Prelude.{ℕ, List, [], ◌∷◌, Bool, not, Option, None, Some, is_none, unwrap_or, option_and_then, codes}
use Rattle.rel_paths.specs.Names.{id_fault, path_fault, user_limits}
use Rattle.toml.specs.Data.{Data, as_str, array, table, Items, no_items, item, Members, no_members, get_member}
use Rattle.profile_toml.specs.declared.error.ProfileError.{ProfileError}
use Rattle.profile_toml.specs.declared.error.ProfileError.TheVariants.{Shape, BadPath}
use Rattle.rel_paths.specs.Names.{is_base}
use Rattle.profile_toml.specs.Faults.{fault_if}

-- the members of a table
abbrev pub members_in : Data → Members
members_in (table ms) = ms
members_in _ = no_members

-- the items, as a list
abbrev pub list_of : Items → List Data
list_of no_items = []
list_of (item d ds) = d ∷ list_of ds

-- the items of the array at a key
abbrev pub items_at : Option Data → List Data
items_at (Some (array ds)) = list_of ds
items_at _ = []

-- the text at a key, if one is there
abbrev pub text_in : Option Data → Option (List ℕ)
text_in d = option_and_then as_str d

-- the text at a key that has one
abbrev pub text_at : Option Data → List ℕ
text_at d = unwrap_or (text_in d) []

-- the id of a type or a mod without a fault
abbrev pub id_in : Data → List ℕ
id_in d = text_at (get_member (codes "id") (members_in d))

abbrev pub is_mod_id : List ℕ → Bool
is_mod_id text = is_none (id_fault text)

abbrev pub is_user_path : List ℕ → Bool
is_user_path text = is_none (path_fault user_limits text)

abbrev pub bad_id : List ℕ → Option ProfileError
bad_id text = fault_if (not (is_mod_id text)) (BadPath text)

abbrev pub bad_path : List ℕ → Option ProfileError
bad_path text = fault_if (not (is_user_path text)) (BadPath text)

abbrev pub bad_base : List ℕ → Option ProfileError
bad_base text = fault_if (not (is_base text)) (BadPath text)

-- a text has to be there, and has these faults
abbrev pub shape_or : (List ℕ → Option ProfileError)
    → List ℕ → Option (List ℕ) → Option ProfileError
shape_or bad at None = Some (Shape at)
shape_or bad at (Some text) = bad text

-- the fault of what stands at the key with this key path, where a text has to stand
abbrev pub text_fault : (List ℕ → Option ProfileError) → List ℕ → Option Data → Option ProfileError
text_fault bad at d = shape_or bad at (text_in d)

-- the fault of what stands at the key with this key path, where a text or nothing may stand
abbrev pub optional_fault : (List ℕ → Option ProfileError)
    → List ℕ → Option Data → Option ProfileError
optional_fault bad at None = None
optional_fault bad at (Some d) = text_fault bad at (Some d)
