-- The lines of a tour.
use Rattle.std.specs.Prelude.{ℕ, List, [], ◌∷◌, ◌++◌, codes}
use Rattle.std.specs.Fmt.{decimal}
use Rattle.tour_counts.specs.declared.tour.Tour.{Tour}

-- a word, a space, a number and a line feed
abbrev pub number_line : List ℕ → ℕ → List ℕ
number_line word n = word ++ (codes " " ++ (decimal n ++ 10 ∷ []))

-- the lines of the look at the mods
abbrev pub mod_lines : Tour → List ℕ
mod_lines t =
    number_line (codes "mods") t.mods
    ++ (number_line (codes "files") t.files ++ number_line (codes "winners") t.winners)

-- those of their conflicts
abbrev pub conflict_lines : Tour → List ℕ
conflict_lines t =
    number_line (codes "override") t.by_override
    ++ (number_line (codes "rule") t.by_rule
    ++ (number_line (codes "position") t.by_position ++ number_line (codes "pairs") t.pairs))

-- those of the deployment, the check and the purge
abbrev pub move_lines : Tour → List ℕ
move_lines t =
    number_line (codes "saved") t.saved
    ++ (number_line (codes "folders") t.folders
    ++ (number_line (codes "changes") t.changes ++ number_line (codes "plain") t.plain))

-- a line for each number
abbrev pub tour_lines : Tour → List ℕ
tour_lines t = mod_lines t ++ (conflict_lines t ++ move_lines t)
