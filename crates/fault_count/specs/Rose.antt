-- When a count of faults rose.
use Rattle.std.specs.Prelude.{ℕ, ◌≡◌, ◌-◌, ◌^◌, ◌<◌, ◌⊎◌}

-- the count is greater at the end of a call than at its start, or stands at 18446744073709551615, at
-- which a stored counter stays
abbrev pub Rose : ℕ → ℕ → Type 0
Rose before now = (before < now) ⊎ (now ≡ 2 ^ 64 - 1)
