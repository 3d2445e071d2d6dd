use Rattle.intent_journal.proofs.Counting.{syncs_trans}
use Rattle.std.proofs.Common.{inr}
use Rattle.tree_fs.specs.Story.{disk_of}
use Rattle.tree_fs.proofs.KindOf.{kind-absent}
use Rattle.intent_journal.specs.Temps.{temp_spot}
use Rattle.intent_journal.proofs.Temping.{along_touched, then_temped}
use Rattle.intent_journal.proofs.temps.renew_temp.Goals as goal

pub fill_temp-requires-clause-gone : goal.fill_temp-requires-clause-gone
fill_temp-requires-clause-gone g c = λ told. (kind-absent (disk_of (g.T.Tree.story c.clear_temp.new.tree)) (temp_spot c.args.which) (c.in_ok-clear_temp.ensures.gone told (c.requires told))).1

pub fill_temp-requires-clause-way : goal.fill_temp-requires-clause-way
fill_temp-requires-clause-way g c = λ told. inr (c.in_ok-clear_temp.ensures.gone told (c.requires told))

pub returns-clause-stops : goal.returns-clause-stops
returns-clause-stops g c = λ told. then_temped c.args.which _ _ _ (along_touched c.args.which _ _ (c.clear_temp.ensures.stops told)) (c.fill_temp.ensures.stops told)

pub returns-in_err-clear_temp-clause-stops : goal.returns-in_err-clear_temp-clause-stops
returns-in_err-clear_temp-clause-stops g c = λ told. along_touched c.args.which _ _ (c.clear_temp.ensures.stops told)

pub returns-clause-syncs : goal.returns-clause-syncs
returns-clause-syncs g c = λ told. syncs_trans 0 0 _ _ _ (c.clear_temp.ensures.syncs told) (c.fill_temp.ensures.syncs told)
