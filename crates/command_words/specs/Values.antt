-- What single words say: ids, paths, kinds, releases and numbers.
use Rattle.std.specs.Prelude.{ℕ, List, [], ◌∷◌, ◌&&◌, nat_le, Option, Some, None, option_and_then, option_map, if◌then◌else◌}
use Rattle.std.specs.Str.{all_ascii_digits}
use Rattle.std.specs.Str.Parse.{digits_value}
use Rattle.rel_paths.specs.Names.{id_fault, path_fault, user_limits}
use Rattle.rel_paths.specs.declared.error.PathError.{PathError}
use Rattle.profile_toml.specs.Releases.{is_release}
use Rattle.profile_toml.specs.Rules.{kind_of}
use Rattle.profile_toml.specs.declared.rule.RuleKind.{RuleKind}
use Rattle.command_words.specs.Words.{Text}

-- the text, where it has no fault
abbrev pub without_fault : Option PathError → Text → Option Text
without_fault None text = Some text
without_fault (Some e) text = None

abbrev pub mod_id : Text → Option Text
mod_id text = without_fault (id_fault text) text

abbrev pub user_path : Text → Option Text
user_path text = without_fault (path_fault user_limits text) text

abbrev pub version : Text → Option Text
version text = if is_release text then Some text else None

-- one decimal digit or more, at most 2^64 - 1
abbrev pub number : Text → Option ℕ
number [] = None
number (d ∷ ds) =
    if all_ascii_digits (d ∷ ds) && nat_le (digits_value 10 (d ∷ ds)) 18446744073709551615
    then Some (digits_value 10 (d ∷ ds)) else None

-- one value, where one word stands
abbrev pub only : {X : Type 0} → (Text → Option X) → List Text → Option X
only value [] = None
only value (a ∷ []) = value a
only value (a ∷ b ∷ words) = None

-- PATH ID
abbrev pub path_and_id : List Text → Option (Text × Text)
path_and_id (a ∷ b ∷ []) =
    option_and_then (λ path. option_map (λ id. (path, id)) (mod_id b)) (user_path a)
path_and_id words = None

-- ID VERSION
abbrev pub id_and_version : List Text → Option (Text × Text)
id_and_version (a ∷ b ∷ []) =
    option_and_then (λ id. option_map (λ release. (id, release)) (version b)) (mod_id a)
id_and_version words = None

-- ID KIND REF
abbrev pub id_kind_id : List Text → Option (Text × RuleKind × Text)
id_kind_id (a ∷ b ∷ c ∷ []) =
    option_and_then (λ id. option_and_then (λ kind. option_map (λ refers. (id, kind, refers))
    (mod_id c)) (kind_of b)) (mod_id a)
id_kind_id words = None
