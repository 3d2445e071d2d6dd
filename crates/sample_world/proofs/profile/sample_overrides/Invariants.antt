use Rattle.std.proofs.Common.{◌≡◌}
use Rattle.sample_world.specs.Parts.{overrides_below}
use Rattle.sample_world.proofs.profile.sample_overrides.Given as goal

abbrev pub invariant-loop-index : goal.invariant-loop-index
invariant-loop-index l = l.overrides.entries ≡ overrides_below l.number l.index
