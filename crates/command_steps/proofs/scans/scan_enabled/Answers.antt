use Rattle.std.proofs.Common.{◌∙◌, ◌++◌, ◌∷◌, [], map, ap, sym, subst, arith}
use Rattle.std.proofs.lemmas.List.{map-append}
use Rattle.tree_fs.specs.Story.{disk_of}
use Rattle.list_laws.proofs.Lists.{one_more}
use Rattle.stage_scan.specs.declared.scan.Scan.{Scan}
use Rattle.stage_scan.specs.Walks.{IsScan}
use Rattle.command_steps.specs.Scans.{IsTurned}
use Rattle.command_steps.proofs.Orders.{takes_err}
use Rattle.command_steps.proofs.Scanning.{scans_more, turned_at}
use Rattle.command_steps.proofs.scans.scan_enabled.Goals as goal

pub returns-in_err-scan-clause-takes : goal.returns-in_err-scan-clause-takes
returns-in_err-scan-clause-takes g c = λ told p has same.
    let at = c.loop-id in
    takes_err _ _ c.from_residual.ensures
    (turned_at p c.args.limits.now c.args.ids.now at.id-index c.id-item.result at.left at.found.items _ _ c.in_err-scan.field-0.0 has same c.loop-id-test.true c.id-item.is (at.invariant.scanned told)
    (c.in_err-scan.ensures.same told ∙ at.invariant.same told)
    (subst (λ s. IsTurned (disk_of s) c.id-item.result c.args.limits.now.entries at.left c.in_err-scan.field-0.0) (at.invariant.same told) (c.in_err-scan.ensures.stopped told)))

pub loop-id-preserved : goal.loop-id-preserved
loop-id-preserved g c =
    let d = disk_of (g.T.Tree.story c.args.tree.now) in
    let at = c.loop-id in
    let scan = c.in_ok-scan.scan in
    let so_far = at.invariant.faults in
    let later = c.in_ok-scan.ensures.cause.later in
    let taken = one_more c.args.ids.now at.id-index c.id-item.result c.loop-id-test.true c.id-item.is in
    record {
      same = λ told. c.in_ok-scan.ensures.same told ∙ at.invariant.same told;
      faults = omega (arith, so_far, later);
      ids_are =
          ap (map (λ (s : Scan). s.mod_id)) c.in_ok-push.ensures.items ∙ map-append (λ (s : Scan). s.mod_id) at.found.items (scan ∷ [])
          ∙ (λ i. at.invariant.ids_are i ++ c.in_ok-scan.ensures.id i ∷ []) ∙ sym taken;
      scanned = λ told.
          rw (taken, c.in_ok-push.ensures.items)
          (scans_more d _ c.id-item.result c.args.limits.now.entries at.left at.found.items scan (at.invariant.scanned told)
          (subst (λ s. IsScan (disk_of s) c.id-item.result scan) (at.invariant.same told) (c.in_ok-scan.ensures.answer told)) c.in_ok-scan.ensures.within);
    }
