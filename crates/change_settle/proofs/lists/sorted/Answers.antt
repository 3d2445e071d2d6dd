use Rattle.std.proofs.lemmas.List.Filters.{dedup_is}
use Rattle.change_settle.proofs.SetOrder.{key_eq, sets_same, sets_rise}
use Rattle.change_settle.proofs.lists.sorted.Goals as goal

pub returns-clause-rise : goal.returns-clause-rise
returns-clause-rise c function =
    sets_rise c.args.sets.items c.sort.new.self.items c.dedup.new.self.items c.in_ok-sort.ensures.permutation (dedup_is key_eq c.sort.new.self.items c.dedup.new.self.items c.dedup.ensures.filtered) c.in_ok-sort.ensures.sorted function

pub returns-clause-same : goal.returns-clause-same
returns-clause-same c =
    sets_same c.args.sets.items c.sort.new.self.items c.dedup.new.self.items c.in_ok-sort.ensures.permutation (dedup_is key_eq c.sort.new.self.items c.dedup.new.self.items c.dedup.ensures.filtered)
