use Rattle.intent_journal.proofs.LikeStops.{along_stands, along_like_stops}
use Rattle.intent_journal.proofs.sweep.sweep_temps.Goals as goal

pub returns-clause-stands : goal.returns-clause-stands
returns-clause-stands g c = λ told standing. along_stands _ _ standing (c.sweep.ensures.stops told)

pub returns-clause-leads : goal.returns-clause-leads
returns-clause-leads g c = λ told standing. along_like_stops _ _ standing (c.sweep.ensures.stops told)
