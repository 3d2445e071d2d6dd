use Rattle.std.proofs.Common.{◌≡◌, false, ◌&&◌, ◌==◌, slice_index, take}
use Rattle.manifest_json.specs.Sources.{has, any_below}
use Rattle.manifest_json.proofs.sources.is_below_one.Given as goal

abbrev pub invariant-loop-i : goal.invariant-loop-i
invariant-loop-i l = any_below l.i (λ j. (slice_index l.path j == 47) && has l.set l.id (take j l.path)) ≡ false
