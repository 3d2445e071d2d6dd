-- Planned failures.
use Rattle.std.specs.Prelude.{◌-◌, ◌+◌, ◌^◌, ℕ, Bool, min, ◌==◌, List}
use Rattle.std.specs.List.{find}
use Rattle.std.specs.Option.{option_map}
use Rattle.std.specs.declared.option.Option.{Option}
use Rattle.tree_mem.specs.declared.fail.FailAt.{FailAt}

-- the failure that is planned for a call, the first of several
abbrev pub planned : List FailAt → ℕ → Option Bool
planned fails call = option_map (λ f. f.done) (find (λ f. f.call == call) fails)

-- the number of the next call, which stands still at its end
abbrev pub next_call : ℕ → ℕ
next_call call = min (call + 1) (2 ^ 64 - 1)
