use Rattle.intent_journal.proofs.StandTemps.{temped_stands}
use Rattle.intent_journal.proofs.temps.write_temp.Goals as goal

pub returns-in_err-renew_temp-clause-stands : goal.returns-in_err-renew_temp-clause-stands
returns-in_err-renew_temp-clause-stands g c = λ told standing. temped_stands c.args.which _ _ standing (c.renew_temp.ensures.stops told)

pub returns-clause-stands : goal.returns-clause-stands
returns-clause-stands g c = λ told standing. temped_stands c.args.which _ _ standing (c.renew_temp.ensures.stops told)
