-- The profile that a text has, or its first fault.
use Rattle.std.specs.Prelude.{ℕ, suc, List, Option, None, Some, Result, Ok, Err, is_some, unwrap_or, nat_lt, codes, pos, if◌then◌else◌}
use Rattle.std.specs.Option.{option_or}
use Rattle.std.specs.Ordering.{int_eq}
use Rattle.std.specs.Str.{is_utf8}
use Rattle.toml.specs.Data.{Data, integer, Members, get_member}
use Rattle.toml.specs.Parse.{parse_document}
use Rattle.profile_toml.specs.declared.error.ProfileError.{ProfileError}
use Rattle.profile_toml.specs.declared.error.ProfileError.TheVariants.{NotToml, Deep, Float, Version, Shape}
use Rattle.profile_toml.specs.Faults.{fault_if}
use Rattle.profile_toml.specs.Levels.{members_levels}
use Rattle.profile_toml.specs.Floats.{members_have_float}
use Rattle.profile_toml.specs.Tables.{Document, room, member_from_2}
use Rattle.profile_toml.specs.Unknown.{unknown_in}
use Rattle.profile_toml.specs.Records.{ProfileData, type_ids}
use Rattle.profile_toml.specs.Types.{types_fault, types_value}
use Rattle.profile_toml.specs.Mods.{mods_fault, mods_value}
use Rattle.profile_toml.specs.Overrides.{overrides_fault, overrides_value}

-- the version, where one that is known stands
abbrev pub version_at : Option Data → Option ℕ
version_at (Some (integer z)) =
    if int_eq z (pos 1) then Some 1 else if int_eq z (pos 2) then Some 2 else None
version_at _ = None

-- the types of a document, which version 1 has no meaning for
abbrev pub types_in : ℕ → Members → Option Data
types_in version ms = member_from_2 version (codes "types") ms

-- `fold` is a key of version 2 that may not stand yet
abbrev pub fold_fault : ℕ → Members → Option ProfileError
fold_fault version ms =
    fault_if (is_some (member_from_2 version (codes "fold") ms)) (Shape (codes "fold"))

-- the first fault of the types, the mods and the overrides, in this order
abbrev pub parts_fault : ℕ → Members → Option ProfileError
parts_fault version ms =
    option_or (types_fault (types_in version ms))
    (option_or
    (mods_fault version (type_ids (types_value (types_in version ms)))
    (get_member (codes "mods") ms))
    (overrides_fault (get_member (codes "overrides") ms)))

-- the first fault of a document, by its version
abbrev pub versioned_fault : Option ℕ → Members → Option ProfileError
versioned_fault None ms = Some Version
versioned_fault (Some version) ms = option_or (fold_fault version ms) (parts_fault version ms)

-- the first fault of a document. The document itself is at level 1
abbrev pub document_fault : Members → Option ProfileError
document_fault ms =
    option_or (fault_if (nat_lt 64 (suc (members_levels ms))) Deep)
    (option_or (fault_if (members_have_float ms) Float)
    (versioned_fault (version_at (get_member (codes "version") ms)) ms))

-- the profile of a document of a version without a fault
abbrev pub parts_value : ℕ → Members → ProfileData
parts_value version ms = record {
  version = version;
  mods = mods_value version (get_member (codes "mods") ms);
  overrides = overrides_value (get_member (codes "overrides") ms);
  types = types_value (types_in version ms);
  extra = unknown_in version Document ms;
}

-- the profile of a document without a fault
abbrev pub document_value : Members → ProfileData
document_value ms = parts_value (unwrap_or (version_at (get_member (codes "version") ms)) 1) ms

-- the document that the bytes are as TOML
abbrev pub document_of : List ℕ → Option Members
document_of bytes = if is_utf8 bytes then parse_document bytes else None

-- the first fault of the bytes, by their document
abbrev pub bytes_fault : Option Members → Option ProfileError
bytes_fault None = Some NotToml
bytes_fault (Some ms) = document_fault ms

abbrev pub profile_or : Option ProfileError → Option Members → Result ProfileData ProfileError
profile_or None (Some ms) = Ok (document_value ms)
profile_or None None = Err NotToml
profile_or (Some e) ms = Err e

-- the profile that these bytes are, or their first fault
unfoldable pub profile_of : List ℕ → Result ProfileData ProfileError
profile_of bytes = profile_or (bytes_fault (document_of bytes)) (document_of bytes)
