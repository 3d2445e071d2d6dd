-- Overrides in a document.
use Rattle.std.specs.Prelude.{ℕ, List, Option, None, Some, map, codes, nat_eq}
use Rattle.std.specs.Option.{option_or}
use Rattle.std.specs.List.{list_any}
use Rattle.std.specs.Cmp.Lexicographic.{pointwise}
use Rattle.toml.specs.Data.{Data, array, table, get_member}
use Rattle.profile_toml.specs.declared.error.ProfileError.{ProfileError}
use Rattle.profile_toml.specs.declared.error.ProfileError.TheVariants.{Shape, SameOverride}
use Rattle.profile_toml.specs.Faults.{fault_if, keyed_fault}
use Rattle.profile_toml.specs.KeyPaths.{keyed, indexed}
use Rattle.profile_toml.specs.Tables.{OfOverride}
use Rattle.profile_toml.specs.Texts.{members_in, list_of, items_at, text_at, text_fault, bad_id, bad_path}
use Rattle.profile_toml.specs.Unknown.{unknown_in}
use Rattle.profile_toml.specs.Records.{OverrideData}

-- the path of an override without a fault
abbrev pub path_in : Data → List ℕ
path_in d = text_at (get_member (codes "path") (members_in d))

-- the first fault of the override at a key path, where overrides of the paths `earlier` stand
-- before it
abbrev pub override_fault : List (List ℕ) → List ℕ → Data → Option ProfileError
override_fault earlier at (table ms) =
    let path = get_member (codes "path") ms in
    option_or (text_fault bad_path (keyed at (codes "path")) path)
    (option_or
    (fault_if (list_any (pointwise nat_eq (text_at path)) earlier) (SameOverride (text_at path)))
    (text_fault bad_id (keyed at (codes "mod")) (get_member (codes "mod") ms)))
override_fault earlier at _ = Some (Shape at)

-- the override, where it has no fault: an override has the same keys in both versions
abbrev pub override_value : Data → OverrideData
override_value d = record {
  path = path_in d;
  mod_id = text_at (get_member (codes "mod") (members_in d));
  extra = unknown_in 1 OfOverride (members_in d);
}

-- the override with its path
abbrev pub override_entry : Data → List ℕ × OverrideData
override_entry d = (path_in d, override_value d)

-- the first fault of these overrides
abbrev pub list_fault : List Data → Option ProfileError
list_fault ds =
    keyed_fault (λ earlier i d. override_fault earlier (indexed (codes "overrides") i) d) path_in ds

-- the first fault of the overrides, which may be missing, and else the overrides
abbrev pub overrides_fault : Option Data → Option ProfileError
overrides_fault None = None
overrides_fault (Some (array ds)) = list_fault (list_of ds)
overrides_fault _ = Some (Shape (codes "overrides"))

abbrev pub overrides_value : Option Data → List OverrideData
overrides_value d = map override_value (items_at d)
