-- Values that are shallow enough, and hold no float and no date that isn't printed.
use Rattle.std.specs.Prelude.{◌≡◌, ◌≤◌, ℕ, List, false}
use Rattle.std.specs.List.{AllByRecursion}
use Rattle.toml.specs.Data.{Data, Members}
use Rattle.profile_toml.specs.Levels.{levels, members_levels}
use Rattle.profile_toml.specs.Floats.{has_float, members_have_float}

pub record IsSound (most : ℕ) (d : Data) : Type 0 where
  pub shallow : levels d ≤ most
  pub no_floats : has_float d ≡ false

pub record AreSound (most : ℕ) (ms : Members) : Type 0 where
  pub shallow : members_levels ms ≤ most
  pub no_floats : members_have_float ms ≡ false
