-- Paths below those of a list.
use Rattle.std.specs.Prelude.{◌≡◌, ℕ, true, List}
use Rattle.std.specs.List.{Contains}
use Rattle.rel_paths.specs.Names.{extends}

-- the path properly extends one of these
pub record IsBelowOne (paths : List (List ℕ)) (path : List ℕ) : Type 0 where
  pub above : List ℕ
  pub among : Contains paths above
  pub extending : extends path above ≡ true
