use Rattle.std.proofs.Common.{sym, ap, ◌∙◌, subst, List, ℕ}
use denote.Bor.{Bor}
use Rattle.std.specs.List.{slice_get}
use Rattle.list_laws.proofs.Orders.{text_tied}
use Rattle.stage_scan.specs.Files.{AreInPathOrder}
use Rattle.deploy_plan.specs.Sources.{source_at}
use Rattle.deploy_plan.proofs.Sourced.{source_here, source_unfound, got}
use Rattle.deploy_plan.proofs.wins.source_of.Goals as goal

pub returns-in-Ok : goal.returns-in-Ok
returns-in-Ok c =
    let files = c.as_slice.result.now in
    let order : AreInPathOrder files = subst AreInPathOrder (sym c.as_slice.ensures.same) c.as_slice.ensures.order in
    got (λ (x : Bor (List ℕ)). x.now) c.deref.result.now c.in-Ok.index c.get.result c.get.ensures.lookup
    ∙ ap (λ (l : List (List ℕ)). slice_get l c.in-Ok.index) c.deref.ensures.value
    ∙ sym (ap (λ l. source_at l c.args.sources.now.paths.items c.args.path.now) (sym c.as_slice.ensures.same)
    ∙ source_here files c.args.sources.now.paths.items c.in-Ok.index c.args.path.now order c.in-Ok.ensures.bound (λ d. text_tied _ c.args.path.now (c.in-Ok.ensures.ok d)))

pub returns-in-Err : goal.returns-in-Err
returns-in-Err c =
    let files = c.as_slice.result.now in
    let order : AreInPathOrder files = subst AreInPathOrder (sym c.as_slice.ensures.same) c.as_slice.ensures.order in
    sym (ap (λ l. source_at l c.args.sources.now.paths.items c.args.path.now) (sym c.as_slice.ensures.same)
    ∙ source_unfound files c.args.sources.now.paths.items c.args.path.now order c.in-Err.field-0 c.in-Err.ensures.bound c.in-Err.ensures.position)
