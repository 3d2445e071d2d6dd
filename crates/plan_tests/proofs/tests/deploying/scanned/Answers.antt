use Rattle.std.proofs.Common.{◌≡◌, false, [], ◌∷◌, ◌++◌, map, nat_eq, refl, sym, ◌∙◌, subst}
use Rattle.std.specs.List.{AllByRecursion}
use Rattle.std.specs.Cmp.Lexicographic.{pointwise}
use Rattle.tree_fs.specs.Story.{disk_of}
use Rattle.tree_mem.specs.MemStory.{mem_story}
use Rattle.stage_scan.specs.declared.scan.Scan.{Scan}
use Rattle.deploy_plan.specs.Scanned.{AreScanned, HasOwnIds}
use Rattle.deploy_plan.proofs.Placing.{scanned_more}
use Rattle.plan_tests.proofs.Scanning.{nothing_twice, ids_more, pushed}
use Rattle.plan_tests.proofs.tests.deploying.scanned.Goals as goal

pub loop-id-init : goal.loop-id-init
loop-id-init g c =
    let d = disk_of (mem_story c.args.tree.now) in
    record {
      scanned = subst (λ l. AreScanned d l c.new-sources.result.items) (sym c.new-scans.ensures.items) (subst (λ l. AreScanned d [] l) (sym c.new-sources.ensures.items) tt);
      own = subst HasOwnIds (sym c.new-scans.ensures.items) nothing_twice;
      same = refl;
    }

pub loop-id-preserved : goal.loop-id-preserved
loop-id-preserved g c =
    let scan = c.placed-placed.result.scan in
    let scans = pushed c.push.result _ c.push.new.self.items c.loop-id.scans.items scan c.push.ensures.items c.expect.ensures in
    let sources = pushed c.push-in-loop-id.result _ c.push-in-loop-id.new.self.items c.loop-id.sources.items c.placed-placed.result.sources c.push-in-loop-id.ensures.items c.expect-in-loop-id.ensures in
    let still = c.placed-placed.ensures.same in
    let d = disk_of (mem_story c.placed-placed.new.tree) in
    let before : AreScanned d c.loop-id.scans.items c.loop-id.sources.items = subst (λ s. AreScanned (disk_of s) c.loop-id.scans.items c.loop-id.sources.items) (sym still) c.loop-id.invariant.scanned in
    let new = subst (λ l. AllByRecursion (λ y. pointwise nat_eq y scan.mod_id ≡ false) (map (λ (s : Scan). s.mod_id) l)) c.deref.ensures.value c.need_new.ensures in
    record {
      scanned = subst (λ l. AreScanned d l c.push-in-loop-id.new.self.items) (sym scans)
          (subst (λ l. AreScanned d (c.loop-id.scans.items ++ scan ∷ []) l) (sym sources)
          (scanned_more d c.loop-id.scans.items c.loop-id.sources.items scan c.placed-placed.result.sources before c.placed-placed.ensures.scanned));
      own = subst HasOwnIds (sym scans) (ids_more c.loop-id.scans.items scan c.loop-id.invariant.own new);
      same = still ∙ c.loop-id.invariant.same;
    }
