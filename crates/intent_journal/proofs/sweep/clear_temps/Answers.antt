use Rattle.intent_journal.proofs.Counting.{syncs_trans}
use Rattle.intent_journal.specs.declared.temp.Temp.TheVariants.{Intent, Manifest, Profile}
use Rattle.intent_journal.proofs.Sweeping.{first_sweep, then_clear, swept_gone, swept_ops, on_gone}
use Rattle.intent_journal.proofs.sweep.clear_temps.Goals as goal

pub returns-in_err-clear_temp-clause-stops : goal.returns-in_err-clear_temp-clause-stops
returns-in_err-clear_temp-clause-stops g c = λ told. first_sweep Intent _ _ (c.clear_temp.ensures.stops told)

pub returns-in_err-clear_temp-2-clause-stops : goal.returns-in_err-clear_temp-2-clause-stops
returns-in_err-clear_temp-2-clause-stops g c = λ told. then_clear Manifest _ _ _ (first_sweep Intent _ _ (c.clear_temp.ensures.stops told)) (c.clear_temp-2.ensures.stops told)

pub returns-clause-stops : goal.returns-clause-stops
returns-clause-stops g c = λ told. then_clear Profile _ _ _ (then_clear Manifest _ _ _ (first_sweep Intent _ _ (c.clear_temp.ensures.stops told)) (c.clear_temp-2.ensures.stops told)) (c.clear_temp-3.ensures.stops told)

pub returns-clause-ops : goal.returns-clause-ops
returns-clause-ops g c = λ told.
    swept_ops _ _ _ _ (c.clear_temp.ensures.stops told) (c.clear_temp-2.ensures.stops told) (c.clear_temp-3.ensures.stops told) c.clear_temp-3.result
    (c.in_ok-clear_temp.ensures.ops told) (c.in_ok-clear_temp-2.ensures.ops told) (c.clear_temp-3.ensures.ops told)

pub returns-clause-gone : goal.returns-clause-gone
returns-clause-gone g c = λ told.
    on_gone c.clear_temp-3.result
    (swept_gone _ _ _ _ (c.clear_temp.ensures.stops told) (c.clear_temp-2.ensures.stops told) (c.clear_temp-3.ensures.stops told) (c.requires told) (c.in_ok-clear_temp.ensures.gone told) (c.in_ok-clear_temp-2.ensures.gone told))
    (c.clear_temp-3.ensures.gone told)

pub returns-in_err-clear_temp-2-clause-syncs : goal.returns-in_err-clear_temp-2-clause-syncs
returns-in_err-clear_temp-2-clause-syncs g c = λ told. syncs_trans 0 0 _ _ _ (c.clear_temp.ensures.syncs told) (c.clear_temp-2.ensures.syncs told)

pub returns-clause-syncs : goal.returns-clause-syncs
returns-clause-syncs g c = λ told. syncs_trans 0 0 _ _ _ (syncs_trans 0 0 _ _ _ (c.clear_temp.ensures.syncs told) (c.clear_temp-2.ensures.syncs told)) (c.clear_temp-3.ensures.syncs told)
