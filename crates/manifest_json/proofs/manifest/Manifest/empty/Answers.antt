use Rattle.std.specs.List.Sorted.{IsStrictlySortedBy}
use Rattle.manifest_json.proofs.manifest.Manifest.empty.Goals as goal

pub new-requires-2 : goal.new-requires-2
unfolding IsStrictlySortedBy
new-requires-2 c = rw c.new.ensures.items (record { good = tt; rise = tt; flat = tt; apart = tt })

pub new-requires-4 : goal.new-requires-4
unfolding IsStrictlySortedBy
new-requires-4 c = rw c.new-3.ensures.items (record { good = tt; rise = tt })
