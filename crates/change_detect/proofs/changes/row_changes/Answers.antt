use Rattle.std.proofs.Common.{◌≡◌, ◌≤◌, ◌∷◌, [], None, ap, ◌∙◌, subst, arith}
use Rattle.list_laws.proofs.Truths.{if_err-from_same}
use Rattle.tree_fs.specs.Story.{disk_of}
use Rattle.manifest_json.specs.declared.manifest.Row.{Row}
use Rattle.change_detect.specs.Classes.{class_of}
use Rattle.change_detect.specs.Changes.{change_of}
use Rattle.change_detect.specs.Refusals.{first_blocked, IsChangeRefusal}
use Rattle.change_detect.specs.Tests.{told_by}
use Rattle.change_detect.proofs.Ascending.{ascending_more, ascending_all}
use Rattle.change_detect.proofs.Found.{changes_more, free_more, refused_at}
use Rattle.change_detect.proofs.changes.row_changes.Goals as goal

pub returns-in_err-change-clause-refused : goal.returns-in_err-change-clause-refused
returns-in_err-change-clause-refused g c = λ told.
    let start = g.T.Tree.story c.args.tree.now in
    let rows = c.args.rows.now in
    let r = c.row-item.result in
    let e = c.in_err-change.field-0.0 in
    let same : g.T.Tree.story c.loop-row.tree ≡ start = c.loop-row.invariant.same told in
    let one = subst (λ s. IsChangeRefusal (disk_of s) (r ∷ []) e) same (c.in_err-change.ensures.refused told) in
    let first = refused_at (disk_of start) rows c.loop-row.row-index r e c.loop-row-test.true c.row-item.is (c.loop-row.invariant.free told) one in
    if_err-from_same (IsChangeRefusal (disk_of start) rows) c.from_residual.result e c.from_residual.ensures.1 first

pub loop-row-preserved : goal.loop-row-preserved
loop-row-preserved g c =
    let start = g.T.Tree.story c.args.tree.now in
    let rows = c.args.rows.now in
    let i = c.loop-row.row-index in
    let r = c.row-item.result in
    let class = λ (s : Row). told_by c.args.test (class_of (disk_of start) s) in
    let before : g.T.Tree.faults c.args.tree.now ≤ g.T.Tree.faults c.loop-row.tree = c.loop-row.invariant.faults in
    let after : g.T.Tree.faults c.loop-row.tree ≤ g.T.Tree.faults c.row_change.new.tree = c.row_change.ensures.cause.later in
    record {
      order = ascending_more rows i r c.loop-row.changes.items c.add.new.changes.items c.in_ok-change.change c.loop-row-test.true c.row-item.is c.in_ok-change.ensures.path c.in_ok-add.ensures c.loop-row.invariant.order;
      same = λ told. c.in_ok-change.ensures.same told ∙ c.loop-row.invariant.same told;
      faults = omega arith;
      found = λ told.
          let same : g.T.Tree.story c.loop-row.tree ≡ start = c.loop-row.invariant.same told in
          let is : c.in_ok-change.change ≡ change_of r (class r) = c.in_ok-change.ensures.answer told ∙ ap (λ s. change_of r (told_by c.args.test (class_of (disk_of s) r))) same in
          changes_more class rows i r c.loop-row.changes.items c.add.new.changes.items c.in_ok-change.change c.loop-row-test.true c.row-item.is (c.loop-row.invariant.found told) is c.in_ok-add.ensures;
      free = λ told.
          let same : g.T.Tree.story c.loop-row.tree ≡ start = c.loop-row.invariant.same told in
          free_more (disk_of start) rows i r c.loop-row-test.true c.row-item.is (c.loop-row.invariant.free told)
          (subst (λ s. first_blocked (disk_of s) (r ∷ []) ≡ None) same (c.in_ok-change.ensures.open told));
    }

pub returns-clause-order : goal.returns-clause-order
returns-clause-order g c = ascending_all c.args.rows.now c.loop-row.row-index c.loop-row.changes.items c.loop-row-test.false c.loop-row.invariant.order
