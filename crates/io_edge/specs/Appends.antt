-- What a sink was given.
use Rattle.std.specs.Prelude.{◌≡◌, ◌≤◌, ℕ, List, ◌++◌, length, take}

-- some first bytes were appended, perhaps none and perhaps all
pub record AppendsPrefix (old new bytes : List ℕ) : Type 0 where
  pub many : ℕ
  pub within : many ≤ length bytes
  pub appends : new ≡ old ++ take many bytes
