-- The lines that a plan is printed as.
use Rattle.std.specs.Prelude.{ℕ, List, [], ◌∷◌, ◌++◌, length, codes}
use Rattle.std.specs.Fmt.{decimal}
use Rattle.std.specs.List.{flat_map}
use Rattle.std.specs.declared.option.Option.{Option}
use Rattle.std.specs.declared.option.Option.TheVariants.{None, Some}
use Rattle.manifest_json.specs.declared.manifest.Manifest.{Manifest}
use Rattle.tree_fs.specs.declared.place.Place.{Place}
use Rattle.tree_fs.specs.Texts.{place_text}
use Rattle.move_plan.specs.declared.plan.SetRow.{SetRow}
use Rattle.move_plan.specs.declared.plan.Plan.{Plan}

abbrev pub tab : List ℕ
tab = 9 ∷ []

abbrev pub line_end : List ℕ
line_end = 10 ∷ []

-- a word and a place
abbrev pub place_line : List ℕ → Place → List ℕ
place_line word p = word ++ (tab ++ (place_text p ++ line_end))

abbrev pub save_line : Place × Place → List ℕ
save_line s = codes "save" ++ (tab ++ (place_text s.0 ++ (tab ++ (place_text s.1 ++ line_end))))

-- a source, or a dash for none
abbrev pub source_text : Option Place → List ℕ
source_text None = codes "-"
source_text (Some p) = place_text p

abbrev pub set_line : SetRow → List ℕ
set_line row = codes "set" ++ (tab ++ (place_text row.to ++ (tab ++ (source_text row.from ++ line_end))))

-- how many rows the new manifest has
abbrev pub row_count : Option Manifest → ℕ
row_count None = 0
row_count (Some m) = length m.rows

abbrev pub files_line : ℕ → List ℕ
files_line n = codes "files " ++ (decimal n ++ line_end)

-- the folders to make, the saves, the sets, the clears and the folders to take off, each in the
-- plan's order, and how many rows the new manifest has
abbrev pub lines_of : Plan → List ℕ
lines_of plan =
    flat_map (place_line (codes "folder")) plan.folders
    ++ (flat_map save_line plan.saves
    ++ (flat_map set_line plan.sets
    ++ (flat_map (place_line (codes "clear")) plan.clears
    ++ (flat_map (place_line (codes "remove")) plan.folders_off
    ++ files_line (row_count plan.manifest)))))
