use Rattle.plan_model.proofs.GoesBy.{goes_entries, entries_goes}
use Rattle.plan_model.proofs.laws.goes_by_entries.Goals as goal

pub returns : goal.returns
returns c = λ a own plan valid s. (λ g. goes_entries a own valid plan s g, λ h. entries_goes a own valid plan s h)
