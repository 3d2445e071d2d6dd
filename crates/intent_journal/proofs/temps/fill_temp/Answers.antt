use Rattle.std.proofs.Common.{arith}
use Rattle.tree_fs.specs.declared.op.Op.TheVariants.{SyncFile}
use Rattle.intent_journal.proofs.Counting.{syncs_new, syncs_adds, syncs_trans}
use Rattle.tree_fs.specs.Story.{disk_of}
use Rattle.intent_journal.proofs.Temping.{can_put, put_stops, new_file_there, sync_stops, written}
use Rattle.intent_journal.proofs.temps.fill_temp.Goals as goal

pub put_new-requires : goal.put_new-requires
put_new-requires g c = λ told. can_put c.args.which _ c.temp_place-at.result (g.met.T.Tree.valid _ told) c.temp_place-at.ensures.spot (c.requires.gone told) (c.requires.way told)

pub returns-in_err-put_new-clause-stops : goal.returns-in_err-put_new-clause-stops
returns-in_err-put_new-clause-stops g c = λ told.
    let s = g.T.Tree.story c.args.tree.now in
    let valid = g.met.T.Tree.valid _ told in
    put_stops c.args.which c.temp_place-at.result c.args.bytes.now s _ _ valid c.temp_place-at.ensures.spot (can_put c.args.which (disk_of s) c.temp_place-at.result valid c.temp_place-at.ensures.spot (c.requires.gone told) (c.requires.way told)) (c.put_new.ensures.adds told)

pub sync_file-requires : goal.sync_file-requires
sync_file-requires g c = λ told. new_file_there c.args.which c.temp_place-at.result c.args.bytes.now (g.T.Tree.story c.args.tree.now) _ _ (c.in_ok-put_new.ensures.adds told)

pub returns-clause-stops : goal.returns-clause-stops
returns-clause-stops g c = λ told.
    let s = g.T.Tree.story c.args.tree.now in
    let valid = g.met.T.Tree.valid _ told in
    sync_stops c.args.which c.temp_place-at.result s _ _ _ (put_stops c.args.which c.temp_place-at.result c.args.bytes.now s _ _ valid c.temp_place-at.ensures.spot (can_put c.args.which (disk_of s) c.temp_place-at.result valid c.temp_place-at.ensures.spot (c.requires.gone told) (c.requires.way told)) (c.put_new.ensures.adds told)) (c.sync_file.ensures.adds told)

pub returns-clause-done : goal.returns-clause-done
returns-clause-done g c = λ told.
    let s = g.T.Tree.story c.args.tree.now in
    written c.args.which c.temp_place-at.result c.args.bytes.now s _ _ _ _ (g.met.T.Tree.valid _ told) c.temp_place-at.ensures.spot (c.in_ok-put_new.ensures.adds told) (c.sync_file.ensures.adds told)

pub returns-in_err-put_new-clause-syncs : goal.returns-in_err-put_new-clause-syncs
returns-in_err-put_new-clause-syncs g c = λ told. syncs_new _ _ _ _ _ (c.put_new.ensures.adds told)

pub returns-clause-syncs : goal.returns-clause-syncs
returns-clause-syncs g c = λ told. syncs_trans 0 0 _ _ _ (syncs_new _ _ _ _ _ (c.put_new.ensures.adds told)) (syncs_adds 0 (SyncFile c.temp_place-at.result) _ _ _ (λ done. omega arith) (c.sync_file.ensures.adds told))
