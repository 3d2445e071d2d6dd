use Rattle.std.proofs.Common.{◌≡◌, Err}
use Rattle.serde_json.specs.View.{view}
use Rattle.manifest_json.specs.declared.error.ManifestError.TheVariants.{Memory}
use Rattle.manifest_json.specs.Manifests.{manifest_of, manifest_in}
use Rattle.manifest_json.proofs.Values.{manifest_is, not_json, json_is}
use Rattle.manifest_json.proofs.Steps.{IfErr-err, value_read, fault_read}
use Rattle.manifest_json.proofs.read.read_manifest.Goals as goal

pub returns-in_err-value-clause-err : goal.returns-in_err-value-clause-err
returns-in_err-value-clause-err c =
    IfErr-err (λ e. (e ≡ Memory → ⊥) → manifest_of c.args.bytes.now ≡ Err e) c.from_residual.result c.in_err-value.field-0.0 c.from_residual.ensures.1
    (λ n. not_json c.args.bytes.now c.in_err-value.field-0.0 (c.in_err-value.ensures n))

pub returns-clause-ok : goal.returns-clause-ok
returns-clause-ok c =
    let d = view c.in_ok-value.value in
    value_read (manifest_in d) (manifest_of c.args.bytes.now) c.manifest_from_json.result (manifest_is c.args.bytes.now d (json_is c.args.bytes.now d c.in_ok-value.ensures)) c.manifest_from_json.ensures

pub returns-clause-err : goal.returns-clause-err
returns-clause-err c =
    let d = view c.in_ok-value.value in
    fault_read (manifest_in d) (manifest_of c.args.bytes.now) c.manifest_from_json.result (manifest_is c.args.bytes.now d (json_is c.args.bytes.now d c.in_ok-value.ensures)) c.manifest_from_json.ensures
