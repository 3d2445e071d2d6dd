use Rattle.std.proofs.Common.{◌≡◌, ℕ, List, Bor, MatchOption, option_map, map, take_all, sym, ap, ◌∙◌, subst, arith}
use Rattle.std.specs.declared.option.Option.{Option}
use Rattle.rel_paths.specs.Names.{IsFreePath}
use Rattle.stage_scan.specs.Files.{AreInPathOrder}
use Rattle.stage_scan.specs.Placed.{target, HasUserTarget}
use Rattle.stage_scan.proofs.Targets.{targets_ordered, first_long}
use Rattle.stage_scan.proofs.placed.place_below.Goals as goal

pub new-requires-clause-order : goal.new-requires-clause-order
new-requires-clause-order c =
    let base = option_map (λ (b : Bor (List ℕ)). b.now) c.args.base in
    let items = c.as_slice-source-items.result.now in
    let all = take_all c.loop-source.source-index items (omega arith) ∙ c.as_slice-source-items.ensures.same in
    subst AreInPathOrder (sym (c.loop-source.invariant.targets ∙ ap (map (target base)) all)) (targets_ordered base c.args.scan.now.files c.as_slice-source-items.ensures.order)

pub returns-in_default-clause-err : goal.returns-in_default-clause-err
returns-in_default-clause-err c =
    let base = option_map (λ (b : Bor (List ℕ)). b.now) c.args.base in
    let source = c.source-item.result in
    let long = subst (λ (found : Option (List ℕ)). MatchOption found (HasUserTarget base source → ⊥) (λ path. (path ≡ target base source) × IsFreePath path)) c.in_default.is c.in_ok-target.ensures in
    first_long base c.args.scan.now.files c.as_slice-source-items.result.now c.loop-source.source-index source c.in_ok-copy.field-0 c.as_slice-source-items.ensures.same c.loop-source-test.true c.source-item.is c.in_ok-copy.ensures c.loop-source.invariant.users long
