-- A source and a sink in memory.
use Rattle.std.specs.Prelude.{◌≡◌, ◌≤◌, ℕ, ◌+◌, ◌-◌, ◌^◌, min, List, ◌++◌, length}

-- one more, where the count doesn't stand at its end
abbrev pub next_count : ℕ → ℕ
next_count n = min (n + 1) (2 ^ 64 - 1)

-- a source in memory
pub record SourceState : Type 0 where
  -- the bytes that are left
  pub left : List ℕ
  -- the most bytes of one pull
  pub piece : ℕ
  -- the number of the next call
  pub calls : ℕ
  -- the numbers of the calls that fail
  pub fails : List ℕ
  pub faults : ℕ

-- one pull, which takes these bytes off, at most a piece of them, and counts as one call
pub record OnePull (old : SourceState) (given : List ℕ) (new : SourceState) : Type 0 where
  pub taken : old.left ≡ given ++ new.left
  pub at_most : length given ≤ old.piece
  pub same : new ≡ record old { left = new.left; calls = next_count old.calls; faults = new.faults }

-- a sink in memory
pub record SinkState : Type 0 where
  -- the bytes that were written
  pub bytes : List ℕ
  -- the number of the next call
  pub calls : ℕ
  -- the numbers of the calls that fail
  pub fails : List ℕ
  pub faults : ℕ
