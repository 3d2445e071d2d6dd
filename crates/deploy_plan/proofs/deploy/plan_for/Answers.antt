use Rattle.std.proofs.Common.{◌≡◌, map, sym, ap, ◌∙◌, subst}
use Rattle.std.specs.List.{AllByRecursion}
use Rattle.list_laws.proofs.Alls.{all_unmap}
use Rattle.list_laws.proofs.Truths.{if_err-from_same}
use Rattle.tree_fs.specs.Story.{disk_of}
use Rattle.deploy_plan.specs.Walk.{merged}
use Rattle.deploy_plan.specs.Refusals.{IsPlanRefusal}
use Rattle.deploy_plan.specs.Steps.{Refused, IsFirstInTheWay, IsFreeStep, IsNotTurned, RefusedByTurned}
use Rattle.deploy_plan.specs.Plans.{CanDeploy}
use Rattle.deploy_plan.specs.Told.{IsGoodStep, step_seen, win_seen}
use Rattle.deploy_plan.proofs.Deploys.{good_steps, can_deploy}
use Rattle.deploy_plan.proofs.Reasons.{by_turned, by_walk, none_turned}
use Rattle.deploy_plan.proofs.deploy.plan_for.Goals as goal

pub returns-in_err-check_turned-clause-refused : goal.returns-in_err-check_turned-clause-refused
returns-in_err-check_turned-clause-refused g c tells =
    let a = disk_of (g.T.Tree.story c.args.tree.now) in
    let rows = c.args.old.now.rows in
    let wins = map win_seen c.args.wins.now in
    let e = c.in_err-check_turned.field-0.0 in
    let at : map step_seen c.deref.result.now ≡ merged rows wins = ap (map step_seen) c.deref.ensures.value ∙ c.in_ok-steps.ensures ∙ ap (λ l. merged l wins) c.as_slice-rows.ensures.same in
    if_err-from_same (IsPlanRefusal a rows wins) c.from_residual-in_err-check_turned.result e c.from_residual-in_err-check_turned.ensures.1
    (by_turned a rows wins c.as_slice-rows.ensures.kept c.requires.wins.rise (c.in_ok-check_changes.ensures.answer tells) e
    (subst (λ l. RefusedByTurned l (merged rows wins) e) c.as_slice-rows.ensures.same (subst (λ l. RefusedByTurned c.as_slice-rows.result.now l e) at c.in_err-check_turned.ensures.refused)))

pub cases-requires-clause-good : goal.cases-requires-clause-good
cases-requires-clause-good g c =
    let rows = c.args.old.now.rows in
    let wins = map win_seen c.args.wins.now in
    let at : map step_seen c.deref-2.result.now ≡ merged rows wins = ap (map step_seen) c.deref-2.ensures.value ∙ c.in_ok-steps.ensures ∙ ap (λ l. merged l wins) c.as_slice-rows.ensures.same in
    all_unmap IsGoodStep step_seen c.deref-2.result.now (subst (AllByRecursion IsGoodStep) (sym at) (good_steps rows wins c.as_slice-rows.ensures.kept.good c.requires.wins.each))

pub returns-in_err-cases-clause-refused : goal.returns-in_err-cases-clause-refused
returns-in_err-cases-clause-refused g c tells =
    let a = disk_of (g.T.Tree.story c.args.tree.now) in
    let rows = c.args.old.now.rows in
    let wins = map win_seen c.args.wins.now in
    let kept = c.as_slice-rows.ensures.kept in
    let e = c.in_err-cases.field-0.0 in
    let at : map step_seen c.deref.result.now ≡ merged rows wins = ap (map step_seen) c.deref.ensures.value ∙ c.in_ok-steps.ensures ∙ ap (λ l. merged l wins) c.as_slice-rows.ensures.same in
    let at_cases : map step_seen c.deref-2.result.now ≡ merged rows wins = ap (map step_seen) c.deref-2.ensures.value ∙ c.in_ok-steps.ensures ∙ ap (λ l. merged l wins) c.as_slice-rows.ensures.same in
    let turned : AllByRecursion (IsNotTurned rows) (merged rows wins) =
    subst (λ l. AllByRecursion (IsNotTurned l) (merged rows wins)) c.as_slice-rows.ensures.same (subst (AllByRecursion (IsNotTurned c.as_slice-rows.result.now)) at c.in_ok-check_turned.ensures.answer) in
    if_err-from_same (IsPlanRefusal a rows wins) c.from_residual-in_err-cases.result e c.from_residual-in_err-cases.ensures.1
    (by_walk a rows wins kept c.requires.wins.rise (c.in_ok-check_changes.ensures.answer tells) (none_turned a rows wins kept c.requires.wins.rise turned) e
    (subst (λ s. Refused (IsFirstInTheWay (disk_of s) (merged rows wins)) e) (c.in_ok-check_changes.ensures.same tells)
    (subst (λ l. Refused (IsFirstInTheWay (disk_of (g.T.Tree.story c.check_changes.new.tree)) l) e) at_cases (c.in_err-cases.ensures.refused tells))))

pub plan_of-requires-clause-can : goal.plan_of-requires-clause-can
plan_of-requires-clause-can g c tells =
    let a = disk_of (g.T.Tree.story c.args.tree.now) in
    let old = c.args.old.now in
    let wins = map win_seen c.args.wins.now in
    let at : map step_seen c.deref.result.now ≡ merged old.rows wins = ap (map step_seen) c.deref.ensures.value ∙ c.in_ok-steps.ensures ∙ ap (λ l. merged l wins) c.as_slice-rows.ensures.same in
    let at_cases : map step_seen c.deref-2.result.now ≡ merged old.rows wins = ap (map step_seen) c.deref-2.ensures.value ∙ c.in_ok-steps.ensures ∙ ap (λ l. merged l wins) c.as_slice-rows.ensures.same in
    let turned : AllByRecursion (IsNotTurned old.rows) (merged old.rows wins) =
    subst (λ l. AllByRecursion (IsNotTurned l) (merged old.rows wins)) c.as_slice-rows.ensures.same (subst (AllByRecursion (IsNotTurned c.as_slice-rows.result.now)) at c.in_ok-check_turned.ensures.answer) in
    let free : AllByRecursion (IsFreeStep a) (merged old.rows wins) =
    subst (λ s. AllByRecursion (IsFreeStep (disk_of s)) (merged old.rows wins)) (c.in_ok-check_changes.ensures.same tells) (subst (AllByRecursion (IsFreeStep (disk_of (g.T.Tree.story c.check_changes.new.tree)))) at_cases (c.in_ok-cases.ensures.free tells)) in
    subst (λ s. CanDeploy (disk_of s) old wins) (sym (c.in_ok-cases.ensures.same tells ∙ c.in_ok-check_changes.ensures.same tells))
    (can_deploy a old wins (g.met.T.Tree.valid c.args.tree.now tells) c.as_slice-rows.ensures.kept c.as_slice.ensures.kept c.requires.wins (c.requires.staged tells) (c.in_ok-check_changes.ensures.answer tells) turned free)

pub returns-clause-can : goal.returns-clause-can
returns-clause-can g c tells =
    let a = disk_of (g.T.Tree.story c.args.tree.now) in
    let old = c.args.old.now in
    let wins = map win_seen c.args.wins.now in
    let at : map step_seen c.deref.result.now ≡ merged old.rows wins = ap (map step_seen) c.deref.ensures.value ∙ c.in_ok-steps.ensures ∙ ap (λ l. merged l wins) c.as_slice-rows.ensures.same in
    let at_cases : map step_seen c.deref-2.result.now ≡ merged old.rows wins = ap (map step_seen) c.deref-2.ensures.value ∙ c.in_ok-steps.ensures ∙ ap (λ l. merged l wins) c.as_slice-rows.ensures.same in
    let turned : AllByRecursion (IsNotTurned old.rows) (merged old.rows wins) =
    subst (λ l. AllByRecursion (IsNotTurned l) (merged old.rows wins)) c.as_slice-rows.ensures.same (subst (AllByRecursion (IsNotTurned c.as_slice-rows.result.now)) at c.in_ok-check_turned.ensures.answer) in
    let free : AllByRecursion (IsFreeStep a) (merged old.rows wins) =
    subst (λ s. AllByRecursion (IsFreeStep (disk_of s)) (merged old.rows wins)) (c.in_ok-check_changes.ensures.same tells) (subst (AllByRecursion (IsFreeStep (disk_of (g.T.Tree.story c.check_changes.new.tree)))) at_cases (c.in_ok-cases.ensures.free tells)) in
    can_deploy a old wins (g.met.T.Tree.valid c.args.tree.now tells) c.as_slice-rows.ensures.kept c.as_slice.ensures.kept c.requires.wins (c.requires.staged tells) (c.in_ok-check_changes.ensures.answer tells) turned free
