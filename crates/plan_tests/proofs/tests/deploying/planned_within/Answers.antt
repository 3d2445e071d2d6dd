use Rattle.std.proofs.Common.{◌≡◌, ℕ, Vec, Global, List, [], sym, ◌∙◌, subst}
use Rattle.tree_fs.specs.Disk.{Disk}
use Rattle.tree_fs.specs.Story.{disk_of}
use Rattle.tree_mem.specs.MemStory.{mem_story}
use Rattle.stage_scan.specs.declared.scan.Scan.{Scan}
use Rattle.stage_scan.specs.declared.placed.Sources.{Sources}
use Rattle.winner_table.specs.declared.wins.WinRow.{WinRow}
use Rattle.winner_table.specs.Folders.{AreApart}
use Rattle.winner_table.specs.Winners.{AreWinners, paths_of}
use Rattle.deploy_plan.specs.Scanned.{AreScanned, HasOwnIds}
use Rattle.deploy_plan.proofs.Placing.{sources_belong, winners_have_sources, winners_are_staged}
use Rattle.plan_tests.proofs.Scanning.{nothing_twice, of_ok}
use Rattle.plan_tests.proofs.tests.deploying.planned_within.Goals as goal

same_scanned : (a : Disk) (scans xs : List Scan) (sources ys : List Sources) → xs ≡ scans → ys ≡ sources → AreScanned a scans sources → AreScanned a xs ys
same_scanned a scans xs sources ys e f is = subst (λ l. AreScanned a l ys) (sym e) (subst (λ l. AreScanned a scans l) (sym f) is)

same_winners : (scans xs : List Scan) (order : List ℕ) (rows ws : List WinRow) → xs ≡ scans → ws ≡ rows → AreWinners scans order [] rows → AreWinners xs order [] ws
same_winners scans xs order rows ws e f is = subst (λ l. AreWinners l order [] ws) (sym e) (subst (λ l. AreWinners scans order [] l) (sym f) is)

pub winners-requires-clause-differ : goal.winners-requires-clause-differ
winners-requires-clause-differ g c = nothing_twice

pub make_plan-requires-clause-apart : goal.make_plan-requires-clause-apart
make_plan-requires-clause-apart g c =
    subst (λ l. AreApart (paths_of l)) (sym c.deref-3.ensures.value)
    (of_ok (λ (rows : Vec WinRow Global). AreApart (paths_of rows.items)) c.winners.result c.expect-wins.result c.expect-wins.ensures c.winners.ensures.apart)

pub make_plan-requires-clause-belong : goal.make_plan-requires-clause-belong
make_plan-requires-clause-belong g c =
    let a = disk_of (mem_story c.scanned-scans.new.tree) in
    sources_belong a c.deref-4.result.now c.deref-5.result.now (same_scanned a _ c.deref-4.result.now _ c.deref-5.result.now c.deref-4.ensures.value c.deref-5.ensures.value c.scanned-scans.ensures.scanned)

pub make_plan-requires-clause-from : goal.make_plan-requires-clause-from
make_plan-requires-clause-from g c =
    let a = disk_of (mem_story c.scanned-scans.new.tree) in
    let order = c.deref.result.now in
    let is = same_scanned a _ c.deref-4.result.now _ c.deref-5.result.now c.deref-4.ensures.value c.deref-5.ensures.value c.scanned-scans.ensures.scanned in
    let own = subst HasOwnIds (sym c.deref-4.ensures.value) c.scanned-scans.ensures.own in
    let wins = of_ok (λ (rows : Vec WinRow Global). AreWinners c.deref-2.result.now order [] rows.items) c.winners.result c.expect-wins.result c.expect-wins.ensures c.winners.ensures.winners in
    winners_have_sources c.deref-4.result.now order [] a c.deref-5.result.now c.deref-3.result.now is own
    (same_winners c.deref-2.result.now c.deref-4.result.now order _ c.deref-3.result.now (c.deref-4.ensures.value ∙ sym c.deref-2.ensures.value) c.deref-3.ensures.value wins)

pub make_plan-requires-clause-staged : goal.make_plan-requires-clause-staged
make_plan-requires-clause-staged g c = λ told.
    let a = disk_of (mem_story c.fail_call.new.tree) in
    let order = c.deref.result.now in
    let here = subst (λ s. AreScanned (disk_of s) c.scanned-scans.result.0.items c.scanned-scans.result.1.items) (sym c.fail_call.ensures) c.scanned-scans.ensures.scanned in
    let is = same_scanned a _ c.deref-4.result.now _ c.deref-5.result.now c.deref-4.ensures.value c.deref-5.ensures.value here in
    let own = subst HasOwnIds (sym c.deref-4.ensures.value) c.scanned-scans.ensures.own in
    let wins = of_ok (λ (rows : Vec WinRow Global). AreWinners c.deref-2.result.now order [] rows.items) c.winners.result c.expect-wins.result c.expect-wins.ensures c.winners.ensures.winners in
    winners_are_staged c.deref-4.result.now order [] a c.deref-5.result.now c.deref-3.result.now is own
    (same_winners c.deref-2.result.now c.deref-4.result.now order _ c.deref-3.result.now (c.deref-4.ensures.value ∙ sym c.deref-2.ensures.value) c.deref-3.ensures.value wins)
