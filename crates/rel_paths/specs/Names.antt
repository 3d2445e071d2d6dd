-- Names and texts of paths: their limits, their faults, their parents and backups.
use Rattle.std.specs.Prelude.{◌≡◌, ℕ, ◌-◌, ◌==◌, Bool, true, false, not, is_none, ◌&&◌, ◌||◌, nat_lt, nat_le, nat_eq, if◌then◌else◌, List, [], ◌∷◌, ◌++◌, length, take, position, codes}
use Rattle.std.specs.List.{slice_split, list_all, list_any, join_with_byte, starts_with, ends_with}
use Rattle.std.specs.Str.{bytes_eq}
use Rattle.std.specs.declared.option.Option.{Option}
use Rattle.std.specs.declared.option.Option.TheVariants.{None, Some}
use Rattle.rel_paths.specs.declared.names.Limits.{Limits}
use Rattle.rel_paths.specs.declared.error.PathError.{PathError}
use Rattle.rel_paths.specs.declared.error.PathError.TheVariants.{Empty, Long, Deep, BadName}

-- the names of a path's text, which stand between its slashes
abbrev pub names_of : List ℕ → List (List ℕ)
names_of = slice_split (λ b. b == 47)

-- the text of a path's names
abbrev pub text_of : List (List ℕ) → List ℕ
text_of = join_with_byte 47

-- no control byte, no slash, no backslash, not byte 127
abbrev pub is_good_byte : ℕ → Bool
is_good_byte b = nat_le 32 b && not (b == 47) && not (b == 92) && not (b == 127)

-- a good name, of what is UTF-8 text already
abbrev pub is_good_name : List ℕ → Bool
is_good_name n =
    not (length n == 0) && not (bytes_eq n (46 ∷ [])) && not (bytes_eq n (46 ∷ 46 ∷ []))
    && list_all is_good_byte n

-- a good name of at most so many bytes
abbrev pub is_name_within : ℕ → List ℕ → Bool
is_name_within most n = is_good_name n && nat_le (length n) most

-- the limits of a user path, and those of a held path
abbrev pub user_limits : Limits
user_limits = record { bytes = 1024; names = 64; name_bytes = 240 }

abbrev pub held_limits : Limits
held_limits = record { bytes = 1400; names = 72; name_bytes = 254 }

abbrev pub bad_name_fault : Option ℕ → Option PathError
bad_name_fault None = None
bad_name_fault (Some k) = Some (BadName k)

-- the first fault of a text as a path within the limits
unfoldable pub path_fault : Limits → List ℕ → Option PathError
path_fault most text =
    if length text == 0 then Some Empty
    else if nat_lt most.bytes (length text) then Some Long
    else if nat_lt most.names (length (names_of text)) then Some Deep
    else bad_name_fault (position (λ n. not (is_name_within most.name_bytes n)) (names_of text))

abbrev pub IsUserPath : List ℕ → Type 0
IsUserPath text = path_fault user_limits text ≡ None

abbrev pub IsHeldPath : List ℕ → Type 0
IsHeldPath text = path_fault held_limits text ≡ None

-- the first fault of a text as a mod's id
unfoldable pub id_fault : List ℕ → Option PathError
id_fault text =
    if length text == 0 then Some Empty
    else if is_name_within 240 text then None
    else Some (BadName 0)

abbrev pub IsModId : List ℕ → Type 0
IsModId text = id_fault text ≡ None

-- the text with the names of the one and then those of the other
abbrev pub joined : List ℕ → List ℕ → List ℕ
joined above below = text_of (names_of above ++ names_of below)

-- the names of a path's parent, where it has one
abbrev pub parent_names : List (List ℕ) → Option (List (List ℕ))
parent_names names = if length names == 1 then None else Some (take (length names - 1) names)

-- the ending of a backup's name, `.vortex_backup`
abbrev pub backup_ending : List ℕ
backup_ending = codes ".vortex_backup"

-- the manifest's name, `vortex.deployment.json`
abbrev pub manifest_name : List ℕ
manifest_name = codes "vortex.deployment.json"

-- the names of a path's backup: the last one has the ending
abbrev pub backup_names : List (List ℕ) → List (List ℕ)
backup_names [] = []
backup_names (n ∷ []) = (n ++ backup_ending) ∷ []
backup_names (n ∷ m ∷ ns) = n ∷ backup_names (m ∷ ns)

-- whether some name is that of a backup
abbrev pub has_backup : List (List ℕ) → Bool
has_backup = list_any (λ n. ends_with nat_eq n backup_ending)

abbrev pub begins_with_manifest : List (List ℕ) → Bool
begins_with_manifest [] = false
begins_with_manifest (n ∷ ns) = bytes_eq n manifest_name

-- whether these names are a reserved path
unfoldable pub is_reserved : List (List ℕ) → Bool
is_reserved names = has_backup names || begins_with_manifest names

-- a user path that isn't reserved
abbrev pub IsFreePath : List ℕ → Type 0
IsFreePath path = IsUserPath path × (is_reserved (names_of path) ≡ false)

-- whether the path properly extends the other: it has the other's names and then more
unfoldable pub extends : List ℕ → List ℕ → Bool
extends path other =
    starts_with bytes_eq (names_of path) (names_of other) && not (bytes_eq path other)

-- a base, the folder below the game that a type of mods names: a user path that isn't reserved, of
-- at most 8 names and 300 bytes
unfoldable pub is_base : List ℕ → Bool
is_base path =
    is_none (path_fault user_limits path) && not (is_reserved (names_of path))
    && nat_le (length (names_of path)) 8 && nat_le (length path) 300

abbrev pub IsBase : List ℕ → Type 0
IsBase path = is_base path ≡ true
