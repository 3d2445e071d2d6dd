-- How deep values lie.
use Rattle.std.specs.Prelude.{ℕ, suc, max}
use Rattle.toml.specs.Data.{Data, array, table, Items, no_items, item, Members, no_members, member}

-- how many levels a value has: itself, and the deepest value inside
abbrev mutual
  pub levels : Data → ℕ
  levels (array ds) = suc (items_levels ds)
  levels (table ms) = suc (members_levels ms)
  levels _ = 1

  pub items_levels : Items → ℕ
  items_levels no_items = 0
  items_levels (item d ds) = max (levels d) (items_levels ds)

  pub members_levels : Members → ℕ
  members_levels no_members = 0
  members_levels (member k d ms) = max (levels d) (members_levels ms)
