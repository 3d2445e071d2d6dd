use Rattle.tree_fs.specs.declared.op.Op.TheVariants.{Unlink}
use Rattle.intent_journal.proofs.Counting.{syncs_same, syncs_after}
use Rattle.std.proofs.Common.{arith, ◌≡◌, ◌≢◌, ◌∙◌, ap, sym, subst, rules}
use Rattle.tree_fs.specs.declared.name.Kind.TheVariants.{File}
use Rattle.tree_fs.specs.Spot.{Spot, spot_of}
use Rattle.tree_fs.specs.Disk.{kind_of}
use Rattle.tree_fs.specs.Story.{Story, disk_of}
use Rattle.intent_journal.specs.Temps.{temp_spot}
use Rattle.intent_journal.proofs.Clearing.{gone_done, gone_absent, file_there, still_absent, touched, no_touch, cleared_ops, left_ops}
use Rattle.intent_journal.proofs.temps.clear_temp.Goals as goal

pub returns-in_err-kind-clause-stops : goal.returns-in_err-kind-clause-stops
returns-in_err-kind-clause-stops g c = λ told. no_touch (temp_spot c.args.which) (g.T.Tree.story c.args.tree.now) _ (g.met.T.Tree.valid _ told) (c.in_err-kind.ensures.same told)

pub unlink-requires : goal.unlink-requires
unlink-requires g c = λ told.
    let is : c.in_ok-kind.field-0 ≡ File = search rules in
    file_there (disk_of (g.T.Tree.story c.args.tree.now)) _ (spot_of c.temp_place-at.result) (ap disk_of (c.in_ok-kind.ensures.same told)) (sym (c.in_ok-kind.ensures.answer told) ∙ is)

pub returns-then-eq-clause-ops : goal.returns-then-eq-clause-ops
returns-then-eq-clause-ops g c = λ told.
    let is : c.in_ok-kind.field-0 ≡ File = search rules in
    cleared_ops c.args.which c.temp_place-at.result (g.T.Tree.story c.args.tree.now) (g.T.Tree.story c.kind.new.self) (g.T.Tree.story c.unlink.new.self) c.unlink.result c.temp_place-at.ensures.place c.temp_place-at.ensures.spot (c.in_ok-kind.ensures.same told) (sym (c.in_ok-kind.ensures.answer told) ∙ is) (c.unlink.ensures.adds told)

pub returns-then-eq-clause-stops : goal.returns-then-eq-clause-stops
returns-then-eq-clause-stops g c = λ told.
    let is : c.in_ok-kind.field-0 ≡ File = search rules in
    touched (temp_spot c.args.which) c.temp_place-at.result (g.T.Tree.story c.args.tree.now) (g.T.Tree.story c.kind.new.self) _ _ (g.met.T.Tree.valid _ told) c.temp_place-at.ensures.spot (c.in_ok-kind.ensures.same told) (sym (c.in_ok-kind.ensures.answer told) ∙ is) (c.unlink.ensures.adds told)

pub returns-then-eq-clause-done : goal.returns-then-eq-clause-done
returns-then-eq-clause-done g c = λ told. gone_done c.args.which c.temp_place-at.result _ _ _ c.temp_place-at.ensures.spot (c.unlink.ensures.adds told)

pub returns-then-eq-clause-gone : goal.returns-then-eq-clause-gone
returns-then-eq-clause-gone g c = λ told. gone_absent c.args.which c.temp_place-at.result (g.T.Tree.story c.args.tree.now) _ _ _ c.temp_place-at.ensures.spot (c.in_ok-kind.ensures.same told) (c.unlink.ensures.adds told)

pub returns-clause-ops : goal.returns-clause-ops
returns-clause-ops g c = λ told.
    let ne : c.in_ok-kind.field-0 ≢ File = search rules in
    left_ops c.args.which (g.T.Tree.story c.args.tree.now) (g.T.Tree.story c.kind.new.self) (c.in_ok-kind.ensures.same told)
    (subst (λ (x : Spot). kind_of (disk_of (g.T.Tree.story c.args.tree.now)) x ≢ File) c.temp_place-at.ensures.spot (λ is. ne (c.in_ok-kind.ensures.answer told ∙ is)))

pub returns-clause-stops : goal.returns-clause-stops
returns-clause-stops g c = λ told. no_touch (temp_spot c.args.which) (g.T.Tree.story c.args.tree.now) _ (g.met.T.Tree.valid _ told) (c.in_ok-kind.ensures.same told)

pub returns-clause-done : goal.returns-clause-done
returns-clause-done g c = λ told.
    let ne : c.in_ok-kind.field-0 ≢ File = search rules in
    subst (λ (s : Story). kind_of (disk_of s) (temp_spot c.args.which) ≢ File) (sym (c.in_ok-kind.ensures.same told))
    (subst (λ (x : Spot). kind_of (disk_of (g.T.Tree.story c.args.tree.now)) x ≢ File) c.temp_place-at.ensures.spot (λ is. ne (c.in_ok-kind.ensures.answer told ∙ is)))

pub returns-clause-gone : goal.returns-clause-gone
returns-clause-gone g c = λ told way.
    let ne : c.in_ok-kind.field-0 ≢ File = search rules in
    still_absent (disk_of (g.T.Tree.story c.args.tree.now)) _ (temp_spot c.args.which) (ap disk_of (c.in_ok-kind.ensures.same told)) (λ is. ne (c.in_ok-kind.ensures.answer told ∙ ap (kind_of (disk_of (g.T.Tree.story c.args.tree.now))) c.temp_place-at.ensures.spot ∙ is)) way

pub returns-in_err-kind-clause-syncs : goal.returns-in_err-kind-clause-syncs
returns-in_err-kind-clause-syncs g c = λ told. syncs_same _ _ (c.in_err-kind.ensures.same told)

pub returns-then-eq-clause-syncs : goal.returns-then-eq-clause-syncs
returns-then-eq-clause-syncs g c = λ told. syncs_after 0 (Unlink c.temp_place-at.result) _ _ _ _ (λ done. omega arith) (c.in_ok-kind.ensures.same told) (c.unlink.ensures.adds told)

pub returns-clause-syncs : goal.returns-clause-syncs
returns-clause-syncs g c = λ told. syncs_same _ _ (c.in_ok-kind.ensures.same told)
