-- Which texts may be the name of an entry.
use Rattle.std.specs.Prelude.{◌≡◌, ℕ, ◌==◌, Bool, true, not, ◌&&◌, nat_le, nat_lt, if◌then◌else◌, List, [], ◌∷◌, length}
use Rattle.std.specs.List.{list_all}
use Rattle.std.specs.Str.{bytes_eq}
use Rattle.std.specs.declared.option.Option.{Option}
use Rattle.std.specs.declared.option.Option.TheVariants.{None, Some}
use Rattle.rel_paths.specs.declared.error.PathError.{PathError}
use Rattle.rel_paths.specs.declared.error.PathError.TheVariants.{Empty, Long, BadName}

-- whether this text may be the name of an entry
abbrev pub is_entry_name : List ℕ → Bool
is_entry_name n = not (length n == 0) && nat_le (length n) 255 && not (bytes_eq n (46 ∷ [])) && not (bytes_eq n (46 ∷ 46 ∷ [])) && list_all (λ b. not (b == 47) && not (b == 0)) n

abbrev pub IsName : List ℕ → Type 0
IsName n = is_entry_name n ≡ true

-- the first fault of a text as the name of an entry
abbrev pub name_fault : List ℕ → Option PathError
name_fault n = if length n == 0 then Some Empty else if nat_lt 255 (length n) then Some Long else if is_entry_name n then None else Some (BadName 0)
