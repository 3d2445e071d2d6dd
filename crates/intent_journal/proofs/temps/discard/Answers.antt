use Rattle.intent_journal.proofs.StandTemps.{temped_stands}
use Rattle.intent_journal.proofs.Temping.{along_touched}
use Rattle.intent_journal.proofs.temps.discard.Goals as goal

pub returns-clause-stops : goal.returns-clause-stops
returns-clause-stops g c = rw (← c.temp.view_is) (λ told. along_touched c.temp.inside.which _ _ (c.clear_temp.ensures.stops told))

pub returns-clause-stands : goal.returns-clause-stands
returns-clause-stands g c = λ told standing. temped_stands c.temp.inside.which _ _ standing (along_touched c.temp.inside.which _ _ (c.clear_temp.ensures.stops told))
