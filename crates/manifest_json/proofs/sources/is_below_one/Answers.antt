use Rattle.std.proofs.Common.{◌≡◌, ◌<◌, ◌&&◌, ◌==◌, ℕ, Bool, true, length, take, slice_index, sym, rules}
use Rattle.manifest_json.specs.Sources.{has}
use Rattle.manifest_json.proofs.Lookups.{below_at}
use Rattle.manifest_json.proofs.sources.is_below_one.Goals as goal

pub returns-then-has : goal.returns-then-has
returns-then-has c =
    let at = c.loop-i in
    let test : ℕ → Bool = λ j. (slice_index c.args.path.now j == 47) && has c.args.set.now c.args.id.now (take j c.args.path.now) in
    let within : at.i < length c.args.path.now = search rules in
    let passes : test at.i ≡ true = search rules in
    sym (below_at (length c.args.path.now) test at.i within passes)
