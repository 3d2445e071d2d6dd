-- The changes of rows.
use Rattle.std.specs.Prelude.{ℕ, List, map, filter_map, option_map}
use Rattle.std.specs.declared.option.Option.{Option}
use Rattle.manifest_json.specs.declared.manifest.Row.{Row}
use Rattle.change_choices.specs.declared.class.Class.{Class}
use Rattle.change_detect.specs.declared.changes.Change.{Change}

-- the change of a row that has this class, none where it is clean
abbrev pub change_of : Row → Option Class → Option Change
change_of r class = option_map (λ c. record { path = r.path; class = c }) class

-- the changes of the rows that aren't clean, in the order of the rows
abbrev pub changes_by : (Row → Option Class) → List Row → List Change
changes_by class rows = filter_map (λ r. change_of r (class r)) rows

abbrev pub change_paths : List Change → List (List ℕ)
change_paths changes = map (λ c. c.path) changes
