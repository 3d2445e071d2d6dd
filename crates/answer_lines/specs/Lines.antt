-- What a line is.
use Rattle.std.specs.Prelude.{ℕ, List, [], ◌∷◌, ◌++◌}
use Rattle.std.specs.List.{flat_map}

-- a further value of a line, with the tab before it
abbrev pub tabbed : List ℕ → List ℕ
tabbed value = 9 ∷ value

abbrev pub line_end : List ℕ
line_end = 10 ∷ []

-- a line: its first value, each further one after a tab, and a line feed
abbrev pub line : List ℕ → List (List ℕ) → List ℕ
line first others = first ++ (flat_map tabbed others ++ line_end)
