-- The lines of lists.
use Rattle.std.specs.Prelude.{ℕ, ◌<◌, List, [], ◌∷◌, ◌++◌, codes, length, map, slice_index_or as get_or}
use Rattle.std.specs.Fmt.{decimal}
use Rattle.std.specs.List.{AllByRecursion, flat_map}
use Rattle.change_choices.specs.Words.{class_name}
use Rattle.change_detect.specs.declared.changes.Change.{Change}
use Rattle.conflict_report.specs.declared.report.PathReport.{PathReport}
use Rattle.conflict_report.specs.declared.report.Report.{Report}
use Rattle.winner_table.specs.declared.wins.WinRow.{WinRow}
use Rattle.answer_lines.specs.Lines.{line, line_end}
use Rattle.answer_lines.specs.Words.{by_word, why_word}

-- the id of a node
abbrev pub id_of : List (List ℕ) → ℕ → List ℕ
id_of ids node = get_or ids node []

abbrev pub HasId : List (List ℕ) → ℕ → Type 0
HasId ids node = node < length ids

-- the id of each node, in the order
abbrev pub order_line : List (List ℕ) → ℕ → List ℕ
order_line ids node = line (id_of ids node) []

abbrev pub order_lines : List (List ℕ) → List ℕ → List ℕ
order_lines ids order = flat_map (order_line ids) order

-- path, winner, and what decides it
abbrev pub winner_line : WinRow → List ℕ
winner_line row = line row.path (row.mod_id ∷ by_word row.by ∷ [])

abbrev pub winner_lines : List WinRow → List ℕ
winner_lines wins = flat_map winner_line wins

-- path, winner, what decides it, and each provider
abbrev pub path_line : List (List ℕ) → PathReport → List ℕ
path_line ids r =
    line (codes "path") (r.path ∷ id_of ids r.winner ∷ why_word r.why ∷ map (id_of ids) r.providers.items)

-- the nodes that the line names have ids
pub record PathHasIds (ids : List (List ℕ)) (r : PathReport) : Type 0 where
  pub winner : HasId ids r.winner
  pub providers : AllByRecursion (HasId ids) r.providers.items

abbrev pub pair_line : List (List ℕ) → ℕ × ℕ → List ℕ
pair_line ids pair = line (codes "pair") (id_of ids pair.0 ∷ id_of ids pair.1 ∷ [])

abbrev pub PairHasIds : List (List ℕ) → ℕ × ℕ → Type 0
PairHasIds ids pair = HasId ids pair.0 × HasId ids pair.1

-- each node that the report names has an id
pub record HasIds (ids : List (List ℕ)) (report : Report) : Type 0 where
  pub paths : AllByRecursion (PathHasIds ids) report.paths.items
  pub pairs : AllByRecursion (PairHasIds ids) report.pairs.items

-- the lines of the paths, then those of the pairs
abbrev pub conflict_lines : List (List ℕ) → Report → List ℕ
conflict_lines ids report =
    flat_map (path_line ids) report.paths.items ++ flat_map (pair_line ids) report.pairs.items

-- class and path
abbrev pub change_line : Change → List ℕ
change_line change = line (class_name change.class) (change.path ∷ [])

abbrev pub count_line : ℕ → List ℕ
count_line n = codes "changes " ++ (decimal n ++ line_end)

-- the line of each change, and how many they are
abbrev pub change_lines : List Change → List ℕ
change_lines changes = flat_map change_line changes ++ count_line (length changes)
