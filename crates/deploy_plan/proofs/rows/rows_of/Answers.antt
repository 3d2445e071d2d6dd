use Rattle.std.proofs.Common.{◌≤◌, arith, ap, ◌∙◌, sym, subst}
use Rattle.list_laws.proofs.Alls.{all_this}
use Rattle.tree_fs.specs.Story.{disk_of}
use Rattle.manifest_json.specs.declared.manifest.Row.{Row}
use Rattle.deploy_plan.specs.Told.{row_win, told_win_of, HasStaged, case_seen, told_row}
use Rattle.plan_lists.proofs.Gathered.{gathered_more, gathered_all, map_itself, option_itself}
use Rattle.deploy_plan.proofs.rows.rows_of.Goals as goal

pub row_of-requires-clause-staged : goal.row_of-requires-clause-staged
row_of-requires-clause-staged g c told =
    let item = c.case-item.result in
    subst (λ s. HasStaged (disk_of s) (case_seen item)) (sym (c.loop-case.invariant.same told))
    (all_this (λ x. HasStaged (disk_of (g.T.Tree.story c.args.tree.now)) (case_seen x)) c.args.cases.now c.loop-case.case-index item c.loop-case-test.true c.case-item.is (c.requires.staged told))

pub loop-case-preserved : goal.loop-case-preserved
loop-case-preserved g c =
    let start = g.T.Tree.story c.args.tree.now in
    let item = c.case-item.result in
    let before : g.T.Tree.faults c.args.tree.now ≤ g.T.Tree.faults c.loop-case.tree = c.loop-case.invariant.later in
    let after : g.T.Tree.faults c.loop-case.tree ≤ g.T.Tree.faults c.row_of.new.tree = c.row_of.ensures.cause.later in
    record {
      same = λ yes. c.in_ok-row.ensures.same yes ∙ c.loop-case.invariant.same yes;
      later = omega arith;
      wins = gathered_more told_win_of case_seen row_win c.args.cases.now c.loop-case.case-index item _ _ _ c.loop-case-test.true c.case-item.is c.loop-case.invariant.wins c.in_ok-row.ensures.win c.in_ok-push_some.ensures;
      so_far = λ yes.
          gathered_more (told_row (disk_of start)) case_seen (λ (r : Row). r) c.args.cases.now c.loop-case.case-index item _ _ _ c.loop-case-test.true c.case-item.is (c.loop-case.invariant.so_far yes)
          (option_itself c.in_ok-row.row ∙ c.in_ok-row.ensures.answer yes ∙ ap (λ s. told_row (disk_of s) (case_seen item)) (c.loop-case.invariant.same yes)) c.in_ok-push_some.ensures;
    }

pub returns-clause-answer : goal.returns-clause-answer
returns-clause-answer g c = λ yes.
    sym (map_itself c.loop-case.rows.items)
    ∙ gathered_all (told_row (disk_of (g.T.Tree.story c.args.tree.now))) case_seen (λ (r : Row). r) c.args.cases.now c.loop-case.case-index _ c.loop-case-test.false (c.loop-case.invariant.so_far yes)
