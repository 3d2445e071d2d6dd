use Rattle.intent_journal.proofs.StandTemps.{left_stands, remove_stands}
use Rattle.std.proofs.Common.{arith, ◌≡◌, ◌≢◌, ◌∙◌, ap, sym, None, rules}
use Rattle.tree_fs.specs.declared.op.Op.TheVariants.{Unlink}
use Rattle.intent_journal.proofs.Counting.{syncs_same, syncs_after}
use Rattle.tree_fs.specs.declared.name.Kind.TheVariants.{File}
use Rattle.tree_fs.specs.Spot.{spot_of}
use Rattle.tree_fs.specs.Disk.{kind_of}
use Rattle.tree_fs.specs.Story.{disk_of}
use Rattle.desk_model.specs.Places.{intent_spot}
use Rattle.intent_journal.proofs.Clearing.{file_there, no_touch, touched}
use Rattle.intent_journal.proofs.Changing.{none_between, remove_stops, removed, still_gone}
use Rattle.intent_journal.proofs.journal.remove.Goals as goal

pub unlink-requires : goal.unlink-requires
unlink-requires g c = λ told.
    let is : c.in_ok-kind.field-0 ≡ File = search rules in
    file_there (disk_of (g.T.Tree.story c.args.tree.now)) _ (spot_of c.control-at.result) (ap disk_of (c.in_ok-kind.ensures.same told)) (sym (c.in_ok-kind.ensures.answer told) ∙ is)

pub returns-in_err-kind-clause-stops : goal.returns-in_err-kind-clause-stops
returns-in_err-kind-clause-stops g c = λ told was firm holds. none_between (g.T.Tree.story c.args.tree.now) _ was None (g.met.T.Tree.valid _ told) (c.in_err-kind.ensures.same told) holds

pub returns-then-eq-clause-stops : goal.returns-then-eq-clause-stops
returns-then-eq-clause-stops g c = λ told was firm holds.
    let is : c.in_ok-kind.field-0 ≡ File = search rules in
    remove_stops c.control-at.result (g.T.Tree.story c.args.tree.now) (g.T.Tree.story c.kind.new.self) _ _ was (g.met.T.Tree.valid _ told) firm c.control-at.ensures (c.in_ok-kind.ensures.same told) (sym (c.in_ok-kind.ensures.answer told) ∙ is) holds (c.unlink.ensures.adds told)

pub returns-then-eq-clause-done : goal.returns-then-eq-clause-done
returns-then-eq-clause-done g c = λ told. removed c.control-at.result _ _ _ c.control-at.ensures (c.unlink.ensures.adds told)

pub returns-clause-stops : goal.returns-clause-stops
returns-clause-stops g c = λ told was firm holds. none_between (g.T.Tree.story c.args.tree.now) _ was None (g.met.T.Tree.valid _ told) (c.in_ok-kind.ensures.same told) holds

pub returns-clause-done : goal.returns-clause-done
returns-clause-done g c = λ told.
    let ne : c.in_ok-kind.field-0 ≢ File = search rules in
    still_gone (disk_of (g.T.Tree.story c.args.tree.now)) _ intent_spot (ap disk_of (c.in_ok-kind.ensures.same told)) (λ is. ne (c.in_ok-kind.ensures.answer told ∙ ap (kind_of (disk_of (g.T.Tree.story c.args.tree.now))) c.control-at.ensures ∙ is)) (c.requires told)

pub returns-in_err-kind-clause-syncs : goal.returns-in_err-kind-clause-syncs
returns-in_err-kind-clause-syncs g c = λ told. syncs_same _ _ (c.in_err-kind.ensures.same told)

pub returns-then-eq-clause-syncs : goal.returns-then-eq-clause-syncs
returns-then-eq-clause-syncs g c = λ told. syncs_after 0 (Unlink c.control-at.result) _ _ _ _ (λ done. omega arith) (c.in_ok-kind.ensures.same told) (c.unlink.ensures.adds told)

pub returns-clause-syncs : goal.returns-clause-syncs
returns-clause-syncs g c = λ told. syncs_same _ _ (c.in_ok-kind.ensures.same told)

pub returns-in_err-kind-clause-only : goal.returns-in_err-kind-clause-only
returns-in_err-kind-clause-only g c = λ told. no_touch intent_spot (g.T.Tree.story c.args.tree.now) _ (g.met.T.Tree.valid _ told) (c.in_err-kind.ensures.same told)

pub returns-then-eq-clause-only : goal.returns-then-eq-clause-only
returns-then-eq-clause-only g c = λ told.
    let is : c.in_ok-kind.field-0 ≡ File = search rules in
    touched intent_spot c.control-at.result (g.T.Tree.story c.args.tree.now) (g.T.Tree.story c.kind.new.self) _ _ (g.met.T.Tree.valid _ told) c.control-at.ensures (c.in_ok-kind.ensures.same told) (sym (c.in_ok-kind.ensures.answer told) ∙ is) (c.unlink.ensures.adds told)

pub returns-clause-only : goal.returns-clause-only
returns-clause-only g c = λ told. no_touch intent_spot (g.T.Tree.story c.args.tree.now) _ (g.met.T.Tree.valid _ told) (c.in_ok-kind.ensures.same told)

pub returns-in_err-kind-clause-stands : goal.returns-in_err-kind-clause-stands
returns-in_err-kind-clause-stands g c = λ told standing. left_stands (g.T.Tree.story c.args.tree.now) _ (g.met.T.Tree.valid _ told) (c.in_err-kind.ensures.same told) standing

pub returns-then-eq-clause-stands : goal.returns-then-eq-clause-stands
returns-then-eq-clause-stands g c = λ told standing. remove_stands c.control-at.result (g.T.Tree.story c.args.tree.now) (g.T.Tree.story c.kind.new.self) _ _ (g.met.T.Tree.valid _ told) c.control-at.ensures (c.in_ok-kind.ensures.same told) (c.unlink.ensures.adds told) standing

pub returns-clause-stands : goal.returns-clause-stands
returns-clause-stands g c = λ told standing. left_stands (g.T.Tree.story c.args.tree.now) _ (g.met.T.Tree.valid _ told) (c.in_ok-kind.ensures.same told) standing
