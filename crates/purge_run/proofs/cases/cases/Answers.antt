use Rattle.std.proofs.Common.{◌≡◌, ◌≤◌, ◌+◌, ◌∷◌, [], None, take, ap, sym, ◌∙◌, subst, arith}
use Rattle.list_laws.proofs.Truths.{if_err-from_same}
use Rattle.tree_fs.specs.Story.{disk_of}
use Rattle.manifest_json.specs.declared.manifest.Row.{Row}
use Rattle.plan_lists.proofs.Gathered.{map_itself}
use Rattle.purge_run.specs.declared.cases.RowCase.{RowCase}
use Rattle.purge_run.specs.Refusals.{first_in_the_way}
use Rattle.purge_run.specs.Told.{told, case_seen}
use Rattle.purge_run.specs.Looks.{RefusedByRows}
use Rattle.purge_run.proofs.Looked.{refused_at, free_more, mapped_more}
use Rattle.purge_run.proofs.cases.cases.Goals as goal

pub returns-in_err-case-clause-refused : goal.returns-in_err-case-clause-refused
returns-in_err-case-clause-refused g c = λ yes.
    let start = g.T.Tree.story c.args.tree.now in
    let a = disk_of start in
    let rows = c.args.rows.now in
    let r = c.row-item.result in
    let e = c.in_err-case.field-0.0 in
    let same : g.T.Tree.story c.loop-row.tree ≡ start = c.loop-row.invariant.same yes in
    let one = subst (λ s. RefusedByRows (disk_of s) (r ∷ []) e) same (c.in_err-case.ensures.refused yes) in
    if_err-from_same (RefusedByRows a rows) c.from_residual-in_err-case.result e c.from_residual-in_err-case.ensures.1
    (refused_at a rows c.loop-row.row-index r c.loop-row-test.true c.row-item.is (c.loop-row.invariant.free yes) e one)

pub loop-row-preserved : goal.loop-row-preserved
loop-row-preserved g c =
    let start = g.T.Tree.story c.args.tree.now in
    let a = disk_of start in
    let rows = c.args.rows.now in
    let i = c.loop-row.row-index in
    let r = c.row-item.result in
    let old = c.loop-row.cases.items in
    let new = c.push.new.self.items in
    let case = c.in_ok-case.case in
    let before : g.T.Tree.faults c.args.tree.now ≤ g.T.Tree.faults c.loop-row.tree = c.loop-row.invariant.later in
    let after : g.T.Tree.faults c.loop-row.tree ≤ g.T.Tree.faults c.case_of.new.tree = c.case_of.ensures.cause.later in
    record {
      same = λ yes. c.in_ok-case.ensures.same yes ∙ c.loop-row.invariant.same yes;
      later = omega arith;
      rows =
          mapped_more (λ (s : Row). s) (λ (k : RowCase). k.row.now) rows i r old new case c.loop-row-test.true c.row-item.is (c.loop-row.invariant.rows ∙ sym (map_itself (take i rows))) c.in_ok-case.ensures.row c.in_ok-push.ensures.items
          ∙ map_itself (take (i + 1) rows);
      so_far = λ yes.
          mapped_more (told a) case_seen rows i r old new case c.loop-row-test.true c.row-item.is (c.loop-row.invariant.so_far yes)
          (c.in_ok-case.ensures.answer yes ∙ ap (λ s. told (disk_of s) r) (c.loop-row.invariant.same yes)) c.in_ok-push.ensures.items;
      free = λ yes.
          free_more a rows i r c.loop-row-test.true c.row-item.is (c.loop-row.invariant.free yes)
          (subst (λ s. first_in_the_way (disk_of s) (r ∷ []) ≡ None) (c.loop-row.invariant.same yes) (c.in_ok-case.ensures.free yes));
    }
