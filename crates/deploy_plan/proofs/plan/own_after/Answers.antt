use Rattle.std.proofs.Common.{◌++◌, sym, subst}
use Rattle.std.specs.List.{Contains}
use Rattle.list_laws.proofs.Alls.{all_among, all_append}
use Rattle.rel_paths.specs.Names.{IsFreePath}
use Rattle.stage_scan.specs.Files.{HasSamePaths}
use Rattle.deploy_plan.proofs.plan.own_after.Goals as goal

pub new-requires : goal.new-requires
new-requires c =
    let whole = c.args.kept.items ++ c.args.made.now in
    record {
      good = all_among IsFreePath whole c.in_ok-all.all.items (λ p h. subst (λ l. Contains l p) c.in_ok-joined.ensures ((c.in_ok-all.ensures.same p).0 h)) (all_append IsFreePath c.args.kept.items c.args.made.now c.requires.kept c.requires.made);
      rise = c.in_ok-all.ensures.rise;
    }

pub returns-clause-same : goal.returns-clause-same
returns-clause-same c =
    subst (λ l. HasSamePaths (c.args.kept.items ++ c.args.made.now) l) (sym c.new.ensures) (subst (λ l. HasSamePaths l c.in_ok-all.all.items) c.in_ok-joined.ensures c.in_ok-all.ensures.same)
