use Rattle.std.proofs.Common.{◌≡◌, map}
use Rattle.std.specs.List.{range_with_len}
use Rattle.sample_world.specs.Profiles.{sample_mod}
use Rattle.sample_world.specs.Texts.{mod_id}
use Rattle.sample_world.proofs.profile.sample_mods.Given as goal

abbrev pub invariant-loop-index : goal.invariant-loop-index
invariant-loop-index l = l.mods.entries ≡ map (λ i. (mod_id i, sample_mod l.number i)) (range_with_len 0 l.index)
