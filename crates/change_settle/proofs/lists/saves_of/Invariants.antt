use Rattle.std.proofs.Common.{◌≡◌, filter_map, take}
use Rattle.change_settle.specs.Lists.{saved_by}
use Rattle.change_settle.proofs.lists.saves_of.Given as goal

abbrev pub invariant-loop-set : goal.invariant-loop-set
invariant-loop-set l = l.saves.items ≡ filter_map saved_by (take l.set-index l.sets)
