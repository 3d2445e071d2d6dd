use Rattle.std.proofs.Common.{◌≡◌, take, map}
use Rattle.std.specs.List.{AllByRecursion}
use Rattle.std.specs.Option.{option_map}
use Rattle.rel_paths.specs.Names.{IsFreePath}
use Rattle.stage_scan.specs.Placed.{target, HasUserTarget}
use Rattle.stage_scan.proofs.placed.place_below.Given as goal

abbrev pub invariant-loop-source : goal.invariant-loop-source
invariant-loop-source l =
    let base = option_map (λ b. b.now) l.base in
    let done = take l.source-index l.source-items in
    record {
      targets : l.targets.items ≡ map (target base) done;
      sources : l.sources.items ≡ done;
      free : AllByRecursion IsFreePath l.targets.items;
      users : AllByRecursion (HasUserTarget base) done;
    }
