-- What rows have.
use Rattle.std.specs.Prelude.{ℕ, List, map}
use Rattle.manifest_json.specs.declared.manifest.Row.{Row}

abbrev pub paths_of : List Row → List (List ℕ)
paths_of rows = map (λ r. r.path) rows
