use Rattle.std.proofs.Common.{◌+◌, arith}
use Rattle.tree_fs.specs.declared.op.Op.TheVariants.{Rename}
use Rattle.intent_journal.specs.Counts.{folder_count}
use Rattle.intent_journal.proofs.Counting.{syncs_more, syncs_adds, syncs_trans}
use Rattle.intent_journal.proofs.Installing.{can_rename, rename_stops, rename_stands, then_syncs, then_stands, install_done}
use Rattle.intent_journal.proofs.temps.put_in_place.Goals as goal

pub rename-requires : goal.rename-requires
rename-requires g c = λ told. can_rename c.args.which _ c.temp_place-temp.result c.own_place-place.result (g.met.T.Tree.valid _ told) c.temp_place-temp.ensures.spot c.own_place-place.ensures (c.requires.temp told) (c.requires.place told)

pub returns-in_err-rename-clause-stops : goal.returns-in_err-rename-clause-stops
returns-in_err-rename-clause-stops g c = λ told text w.
    rename_stops c.args.which c.temp_place-temp.result c.own_place-place.result (g.T.Tree.story c.args.tree.now) _ _ (g.met.T.Tree.valid _ told) c.temp_place-temp.ensures.spot c.own_place-place.ensures (c.requires.place told) (c.rename.ensures.adds told) text w

pub returns-clause-stops : goal.returns-clause-stops
returns-clause-stops g c = λ told text w.
    then_syncs c.args.which _ _ _
    (rename_stops c.args.which c.temp_place-temp.result c.own_place-place.result (g.T.Tree.story c.args.tree.now) _ _ (g.met.T.Tree.valid _ told) c.temp_place-temp.ensures.spot c.own_place-place.ensures (c.requires.place told) (c.rename.ensures.adds told) text w)
    (c.settle.ensures.stops told)

pub returns-clause-done : goal.returns-clause-done
returns-clause-done g c = λ told.
    install_done c.args.which c.temp_place-temp.result c.own_place-place.result (g.T.Tree.story c.args.tree.now) (g.T.Tree.story c.rename.new.self) (g.T.Tree.story c.settle.new.tree) _ _ (g.met.T.Tree.valid _ told) c.temp_place-temp.ensures.spot c.own_place-place.ensures (c.requires.place told)
    (c.in_ok-rename.ensures.adds told) (c.settle.ensures.stops told) (c.settle.ensures.temp told) (c.settle.ensures.place told)

pub returns-in_err-rename-clause-syncs : goal.returns-in_err-rename-clause-syncs
returns-in_err-rename-clause-syncs g c = λ told. syncs_more 0 (folder_count c.args.which) _ _ (omega arith) (syncs_adds 0 (Rename c.temp_place-temp.result c.own_place-place.result) _ _ _ (λ done. omega arith) (c.rename.ensures.adds told))

pub returns-clause-syncs : goal.returns-clause-syncs
returns-clause-syncs g c = λ told. syncs_more (0 + folder_count c.args.which) (folder_count c.args.which) _ _ (omega arith) (syncs_trans 0 (folder_count c.args.which) _ _ _ (syncs_adds 0 (Rename c.temp_place-temp.result c.own_place-place.result) _ _ _ (λ done. omega arith) (c.rename.ensures.adds told)) (c.settle.ensures.syncs told))

pub returns-in_err-rename-clause-stands : goal.returns-in_err-rename-clause-stands
returns-in_err-rename-clause-stands g c = λ told text w standing.
    rename_stands c.args.which c.temp_place-temp.result c.own_place-place.result (g.T.Tree.story c.args.tree.now) _ _ (g.met.T.Tree.valid _ told) c.temp_place-temp.ensures.spot c.own_place-place.ensures (c.requires.place told) (c.rename.ensures.adds told) text w standing

pub returns-clause-stands : goal.returns-clause-stands
returns-clause-stands g c = λ told text w standing.
    then_stands _ _ _
    (rename_stands c.args.which c.temp_place-temp.result c.own_place-place.result (g.T.Tree.story c.args.tree.now) _ _ (g.met.T.Tree.valid _ told) c.temp_place-temp.ensures.spot c.own_place-place.ensures (c.requires.place told) (c.rename.ensures.adds told) text w standing)
    (c.settle.ensures.stops told)
