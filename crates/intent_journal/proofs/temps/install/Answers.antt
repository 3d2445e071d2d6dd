use Rattle.intent_journal.proofs.temps.install.Goals as goal

pub returns-in-Ok-clause-stops : goal.returns-in-Ok-clause-stops
returns-in-Ok-clause-stops g c = rw (← c.temp.view_is) (c.put_in_place.ensures.stops)

pub returns-in-Err-clause-stops : goal.returns-in-Err-clause-stops
returns-in-Err-clause-stops g c = rw (← c.temp.view_is) (c.put_in_place.ensures.stops)

pub returns-in-Ok-clause-syncs : goal.returns-in-Ok-clause-syncs
returns-in-Ok-clause-syncs g c = rw (← c.temp.view_is) (c.put_in_place.ensures.syncs)

pub returns-in-Err-clause-syncs : goal.returns-in-Err-clause-syncs
returns-in-Err-clause-syncs g c = rw (← c.temp.view_is) (c.put_in_place.ensures.syncs)

pub returns-in-Ok-clause-stands : goal.returns-in-Ok-clause-stands
returns-in-Ok-clause-stands g c = rw (← c.temp.view_is) (c.put_in_place.ensures.stands)

pub returns-in-Err-clause-stands : goal.returns-in-Err-clause-stands
returns-in-Err-clause-stands g c = rw (← c.temp.view_is) (c.put_in_place.ensures.stands)
