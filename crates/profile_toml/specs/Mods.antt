-- Mods in a document.
use Rattle.std.specs.Prelude.{ℕ, List, Bool, true, not, Option, None, Some, map, codes, nat_eq}
use Rattle.std.specs.Option.{option_or}
use Rattle.std.specs.List.{list_any}
use Rattle.std.specs.Cmp.Lexicographic.{pointwise}
use Rattle.toml.specs.Data.{Data, boolean, array, table, Members, get_member}
use Rattle.profile_toml.specs.declared.error.ProfileError.{ProfileError}
use Rattle.profile_toml.specs.declared.error.ProfileError.TheVariants.{Shape, SameMod, BadRelease, NoType}
use Rattle.profile_toml.specs.Faults.{fault_if, keyed_fault}
use Rattle.profile_toml.specs.Kept.{is_type}
use Rattle.profile_toml.specs.KeyPaths.{keyed, indexed}
use Rattle.profile_toml.specs.Releases.{is_release}
use Rattle.profile_toml.specs.Tables.{OfMod, member_from_2}
use Rattle.profile_toml.specs.Texts.{members_in, list_of, items_at, id_in, text_in, text_at, text_fault, optional_fault, bad_id}
use Rattle.profile_toml.specs.Unknown.{unknown_in}
use Rattle.profile_toml.specs.Records.{ModData}
use Rattle.profile_toml.specs.Rules.{rules_fault, rules_value}

abbrev pub enabled_fault : List ℕ → Option Data → Option ProfileError
enabled_fault at None = None
enabled_fault at (Some (boolean b)) = None
enabled_fault at _ = Some (Shape at)

-- whether a mod is enabled, where there is no fault
abbrev pub enabled_at : Option Data → Bool
enabled_at (Some (boolean b)) = b
enabled_at _ = true

abbrev pub bad_release : List ℕ → Option ProfileError
bad_release text = fault_if (not (is_release text)) (BadRelease text)

-- where the types have these ids
abbrev pub bad_type : List (List ℕ) → List ℕ → Option ProfileError
bad_type ids text = fault_if (not (is_type ids text)) (NoType text)

-- the first fault of a mod's table beside its id
abbrev pub entry_fault : ℕ → List (List ℕ) → List ℕ → Members → Option ProfileError
entry_fault version ids at ms =
    option_or (enabled_fault (keyed at (codes "enabled")) (get_member (codes "enabled") ms))
    (option_or
    (optional_fault bad_release (keyed at (codes "release"))
    (member_from_2 version (codes "release") ms))
    (option_or
    (optional_fault (bad_type ids) (keyed at (codes "type"))
    (member_from_2 version (codes "type") ms))
    (rules_fault version (keyed at (codes "rules")) (get_member (codes "rules") ms))))

-- the first fault of the mod at a key path, where mods with the ids `earlier` stand before it, and
-- the types have these ids
abbrev pub mod_fault : ℕ → List (List ℕ) → List (List ℕ) → List ℕ → Data → Option ProfileError
mod_fault version ids earlier at (table ms) =
    let id = get_member (codes "id") ms in
    option_or (text_fault bad_id (keyed at (codes "id")) id)
    (option_or (fault_if (list_any (pointwise nat_eq (text_at id)) earlier) (SameMod (text_at id)))
    (entry_fault version ids at ms))
mod_fault version ids earlier at _ = Some (Shape at)

-- the mod of a table, where there is no fault
abbrev pub entry_value : ℕ → Members → ModData
entry_value version ms = record {
  enabled = enabled_at (get_member (codes "enabled") ms);
  rules = rules_value version (get_member (codes "rules") ms);
  release = text_in (member_from_2 version (codes "release") ms);
  mod_type = text_in (member_from_2 version (codes "type") ms);
  extra = unknown_in version OfMod ms;
}

-- the mod with its id, where it has no fault
abbrev pub mod_value : ℕ → Data → List ℕ × ModData
mod_value version d = (id_in d, entry_value version (members_in d))

-- the first fault of these mods, where the types have these ids
abbrev pub list_fault : ℕ → List (List ℕ) → List Data → Option ProfileError
list_fault version ids ds =
    keyed_fault (λ earlier i d. mod_fault version ids earlier (indexed (codes "mods") i) d) id_in ds

-- the first fault of the mods, which may be missing, and else the mods
abbrev pub mods_fault : ℕ → List (List ℕ) → Option Data → Option ProfileError
mods_fault version ids None = None
mods_fault version ids (Some (array ds)) = list_fault version ids (list_of ds)
mods_fault version ids _ = Some (Shape (codes "mods"))

abbrev pub mods_value : ℕ → Option Data → List (List ℕ × ModData)
mods_value version d = map (mod_value version) (items_at d)
