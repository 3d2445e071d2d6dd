-- A line that is being gathered.
use Rattle.std.specs.Prelude.{ℕ, List}

-- a line that is being gathered, and the bytes that were pulled and are in no line yet
pub record LineAndHeld : Type 0 where
  pub line : List ℕ
  pub held : List ℕ
