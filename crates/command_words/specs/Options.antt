-- The options and the flag after `settle`.
use Rattle.std.specs.Prelude.{List, [], ◌∷◌, ◌++◌, Bool, ◌==◌, ◌&&◌, Option, Some, None, option_map, option_and_then, if◌then◌else◌, codes, find}
use Rattle.std.specs.List.{list_any, before_first, after_first}
use Rattle.std.specs.Str.{bytes_eq}
use Rattle.command_words.specs.Words.{Text, is_end, is_dashed}

-- the options, each with a value, and the flag
abbrev pub option_names : List Text
option_names =
    codes "replaced" ∷ codes "changed" ∷ codes "deleted" ∷ codes "source-deleted"
    ∷ codes "gone" ∷ []

abbrev pub flag_name : Text
flag_name = codes "from-input"

abbrev pub is_option : Text → Bool
is_option name = list_any (λ n. bytes_eq n name) option_names

abbrev pub is_flag : Text → Bool
is_flag name = bytes_eq flag_name name

-- what follows `--` in a word
abbrev pub after_dashes : Text → Option Text
after_dashes [] = None
after_dashes (a ∷ []) = None
after_dashes (a ∷ b ∷ rest) = if a == 45 && b == 45 then Some rest else None

-- of that, what stands before the first `=`, and what stands after it where there is one
abbrev pub name_in : Text → Text
name_in text = before_first (λ b. b == 61) text

abbrev pub value_in : Text → Option Text
value_in text =
    if list_any (λ b. b == 61) text then Some (after_first (λ b. b == 61) text) else None

-- the options and the flag that stood, with their values, in their order; the flag's is `true`
abbrev pub Uses : Type 0
Uses = List (Text × Text)

abbrev pub has_use : Text → Uses → Bool
has_use name uses = list_any (λ u. bytes_eq u.0 name) uses

abbrev pub value_of : Uses → Text → Option Text
value_of uses name = option_map (λ u. u.1) (find (λ u. bytes_eq u.0 name) uses)

-- one more, where the name did not stand before
abbrev pub with_use : Text → Text → Uses → Option Uses
with_use name value uses = if has_use name uses then None else Some (uses ++ (name, value) ∷ [])

-- what stands after a word: the option whose value the next word is, and the uses so far
abbrev pub Stand : Type 0
Stand = Option Text × Uses

-- after an option with its value
abbrev pub after_use : Text → Text → Uses → Option Stand
after_use name value uses = option_map (λ more. (None, more)) (with_use name value uses)

-- after a word with this name, and this value after `=`
abbrev pub after_name : Text → Option Text → Uses → Option Stand
after_name name (Some value) uses = if is_option name then after_use name value uses else None
after_name name None uses =
    if is_option name then Some (Some name, uses)
    else (if is_flag name then after_use name (codes "true") uses else None)

-- after a word that isn't `--`, by what follows its dashes
abbrev pub after_dashed : Option Text → Uses → Option Stand
after_dashed None uses = None
after_dashed (Some text) uses = after_name (name_in text) (value_in text) uses

-- after `--` each word would be positional, and none may stand
abbrev pub at_end : Uses → List Text → Option Uses
at_end uses [] = Some uses
at_end uses (word ∷ rest) = None

-- the uses after all these words, from the uses so far on, where the first word may be a value
abbrev pub uses_from : Option Text → Uses → List Text → Option Uses
uses_from None uses [] = Some uses
uses_from (Some name) uses [] = None
uses_from None uses (word ∷ rest) =
    if is_end word then at_end uses rest
    else option_and_then (λ s. uses_from s.0 s.1 rest) (after_dashed (after_dashes word) uses)
uses_from (Some name) uses (word ∷ rest) =
    if is_dashed word then None
    else option_and_then (λ s. uses_from s.0 s.1 rest) (after_use name word uses)

abbrev pub options : List Text → Option Uses
options words = uses_from None [] words
