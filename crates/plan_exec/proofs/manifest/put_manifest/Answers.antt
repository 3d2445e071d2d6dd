use Rattle.std.proofs.Common.{◌≡◌, ◌∙◌, ap, sym, subst, Some, None}
use Rattle.std.specs.Prelude.{IfSome}
use Rattle.tree_fs.specs.Story.{disk_of}
use Rattle.move_plan.specs.declared.plan.Plan.{Plan}
use Rattle.manifest_json.specs.Manifests.{manifest_value}
use Rattle.plan_exec.proofs.ManifestStands.{manifest_along}
use Rattle.plan_exec.proofs.Manifests.{installed_done, removed_done}
use Rattle.plan_exec.proofs.manifest.put_manifest.Goals as goal

pub returns-in-Some-clause-stops : goal.returns-in-Some-clause-stops
returns-in-Some-clause-stops g c = λ told ready. manifest_along c.args.ready.now (g.T.Tree.story c.args.tree.now) _ ready (c.write_manifest.ensures.stops told)

pub returns-in-None-clause-stops : goal.returns-in-None-clause-stops
returns-in-None-clause-stops g c = λ told ready. manifest_along c.args.ready.now (g.T.Tree.story c.args.tree.now) _ ready (c.remove_manifest.ensures.stops told)

pub returns-in-Some-clause-done : goal.returns-in-Some-clause-done
returns-in-Some-clause-done g c = λ told absent.
    let m = c.in-Some.field-0 in
    let has : c.args.ready.now.manifest ≡ Some m = ap (λ (p : Plan). p.manifest) (sym c.plan.ensures.same) ∙ c.in-Some.is in
    installed_done c.args.ready.now m c.manifest_text.result.now (disk_of (g.T.Tree.story c.write_manifest.new.tree)) c.write_manifest.result has
    (subst (λ o. IfSome o (λ n. manifest_value c.manifest_text.result.now ≡ Some n)) has c.manifest_text.ensures.reads) (c.write_manifest.ensures.done told)

pub returns-in-None-clause-done : goal.returns-in-None-clause-done
returns-in-None-clause-done g c = λ told absent.
    let has : c.args.ready.now.manifest ≡ None = ap (λ (p : Plan). p.manifest) (sym c.plan.ensures.same) ∙ c.in-None.is in
    removed_done c.args.ready.now (disk_of (g.T.Tree.story c.remove_manifest.new.tree)) c.remove_manifest.result has (c.remove_manifest.ensures.done told) (c.remove_manifest.ensures.temp told absent) (c.remove_manifest.ensures.keep told)
