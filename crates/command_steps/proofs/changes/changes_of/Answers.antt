use Rattle.std.proofs.Common.{[], sym, subst}
use Rattle.std.specs.List.Sorted.{IsStrictlySortedBy}
use Rattle.manifest_json.specs.Paths.{AreRising}
use Rattle.change_detect.specs.Changes.{change_paths}
use Rattle.command_steps.proofs.changes.changes_of.Goals as goal

none_rise : AreRising []
unfolding IsStrictlySortedBy
none_rise = tt

pub returns-in-None-clause-order : goal.returns-in-None-clause-order
returns-in-None-clause-order g c = subst (λ l. AreRising (change_paths l)) (sym c.new.ensures.items) none_rise
