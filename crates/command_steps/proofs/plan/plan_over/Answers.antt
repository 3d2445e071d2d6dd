use Rattle.std.proofs.Common.{List, nat_eq, subst, sym}
use Rattle.std.specs.List.{AllByRecursion, IsDistinct}
use Rattle.std.specs.Cmp.Lexicographic.{pointwise}
use Rattle.tree_fs.specs.Disk.{IsFile}
use Rattle.tree_fs.specs.Story.{disk_of}
use Rattle.stage_scan.specs.declared.scan.Scan.{Scan}
use Rattle.stage_scan.specs.declared.placed.Sources.{Sources}
use Rattle.winner_table.specs.declared.wins.WinRow.{WinRow}
use Rattle.winner_table.specs.Winners.{paths_of}
use Rattle.winner_table.specs.Folders.{AreApart}
use Rattle.desk_model.specs.Deployed.{won_spot}
use Rattle.deploy_plan.specs.Sources.{AreFrom, wins_of}
use Rattle.command_steps.proofs.Sourcing.{from_sources}
use Rattle.command_steps.proofs.Planning.{staged}
use Rattle.command_steps.proofs.plan.plan_over.Goals as goal

pub make_plan-requires-clause-apart : goal.make_plan-requires-clause-apart
make_plan-requires-clause-apart g c = subst (λ l. AreApart (paths_of l)) (sym c.as_slice-wins.ensures.value) c.requires.whole.apart

pub make_plan-requires-clause-from : goal.make_plan-requires-clause-from
make_plan-requires-clause-from g c =
    let found = c.args.looked.now in
    let whole = c.requires.whole in
    let from = from_sources found.scans.items found.order.items found.profile.overrides found.sources.items found.wins.items whole.belong (subst (IsDistinct (pointwise nat_eq)) (sym whole.same_ids) whole.differ) whole.winners in
    subst (λ l. AreFrom l c.as_slice-sources.result.now c.as_slice-wins.result.now) (sym c.as_slice-scans.ensures.value)
    (subst (λ l. AreFrom found.scans.items l c.as_slice-wins.result.now) (sym c.as_slice-sources.ensures.value) (subst (AreFrom found.scans.items found.sources.items) (sym c.as_slice-wins.ensures.value) from))

pub make_plan-requires-clause-staged : goal.make_plan-requires-clause-staged
make_plan-requires-clause-staged g c = λ told.
    let d = disk_of (g.T.Tree.story c.args.tree.now) in
    let found = c.args.looked.now in
    let whole = c.requires.whole in
    let from = from_sources found.scans.items found.order.items found.profile.overrides found.sources.items found.wins.items whole.belong (subst (IsDistinct (pointwise nat_eq)) (sym whole.same_ids) whole.differ) whole.winners in
    let all = staged d found (c.requires.found told) from in
    subst (λ (l : List Scan). AllByRecursion (λ w. IsFile d (won_spot w)) (wins_of l c.as_slice-sources.result.now c.as_slice-wins.result.now)) (sym c.as_slice-scans.ensures.value)
    (subst (λ (l : List Sources). AllByRecursion (λ w. IsFile d (won_spot w)) (wins_of found.scans.items l c.as_slice-wins.result.now)) (sym c.as_slice-sources.ensures.value)
    (subst (λ (l : List WinRow). AllByRecursion (λ w. IsFile d (won_spot w)) (wins_of found.scans.items found.sources.items l)) (sym c.as_slice-wins.ensures.value) all))
