-- What one pass over the rows makes.
use Rattle.std.specs.Prelude.{ℕ, List, filter_map}
use Rattle.std.specs.declared.option.Option.{Option}
use Rattle.std.specs.declared.option.Option.TheVariants.{None, Some}
use Rattle.tree_fs.specs.Spot.{Spot}
use Rattle.tree_fs.specs.Places.{game_spot}
use Rattle.tree_fs.specs.Disk.{Disk}
use Rattle.manifest_json.specs.declared.manifest.Row.{Row}
use Rattle.plan_model.specs.Rows.{from_backup}
use Rattle.plan_model.specs.Moves.{Move}
use Rattle.plan_model.specs.Lists.{at_place}
use Rattle.purge_run.specs.Holds.{Hold, unheld, linked, over, bare, held_row, aside_at, purge_set}

abbrev pub row_set : Disk → ℕ → Row → Option (Spot × Move)
row_set a n r = at_place (game_spot r.path) (purge_set a n (held_row a r))

abbrev pub save_held : ℕ → Hold → Option (Spot × Spot)
save_held n unheld = None
save_held n (linked r) = None
save_held n (over r) = Some (game_spot r.path, aside_at n r.path)
save_held n (bare r) = None

abbrev pub row_save : Disk → ℕ → Row → Option (Spot × Spot)
row_save a n r = save_held n (held_row a r)

abbrev pub row_clear : Disk → Row → Option Spot
row_clear a r = from_backup a r

-- the sets, in the order of a plan
abbrev pub purge_sets : Disk → ℕ → List Row → List (Spot × Move)
purge_sets a n rows = filter_map (row_set a n) rows

-- the saves, in the order of a plan too
abbrev pub purge_saves : Disk → ℕ → List Row → List (Spot × Spot)
purge_saves a n rows = filter_map (row_save a n) rows

-- the clears, in the order of their paths. In a plan they are sorted by their own places
abbrev pub purge_clears : Disk → List Row → List Spot
purge_clears a rows = filter_map (row_clear a) rows
