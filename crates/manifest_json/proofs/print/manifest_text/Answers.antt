use Rattle.std.proofs.Common.{◌≡◌, ◌++◌, [], Some, ap, sym, subst, ◌∙◌}
use Rattle.std.specs.Prelude.{IsUtf8}
use Rattle.json.specs.Print.{print}
use Rattle.serde_json.specs.Read.{read}
use Rattle.serde_json.specs.Written.{compact_text}
use Rattle.serde_json.proofs.Texts.{print-outline}
use Rattle.manifest_json.specs.Manifests.{manifest_of, manifest_in}
use Rattle.manifest_json.specs.Texts.{manifest_data, tokens_of, text_of}
use Rattle.manifest_json.specs.declared.version.FormatVersion.TheVariants.{Two}
use Rattle.manifest_json.proofs.Rounds.{manifest_back}
use Rattle.manifest_json.proofs.Plain.{whole_plain}
use Rattle.manifest_json.proofs.Compact.{read_compact}
use Rattle.manifest_json.proofs.Values.{json_read, manifest_is}
use Rattle.manifest_json.proofs.print.manifest_text.Goals as goal

pub returns-clause-exact : goal.returns-clause-exact
unfolding text_of
returns-clause-exact c =
    let d = manifest_data Two c.args.manifest.now in
    let before = c.in_ok-write_manifest.ensures.before ∙ c.new-writer.ensures.before ∙ c.new.ensures.items in
    let written = c.in_ok-write_manifest.ensures.tokens ∙ ap (λ ts. ts ++ tokens_of d) c.new-writer.ensures.tokens in
    c.into_inner.ensures.items ∙ (λ i. before i ++ print (written i)) ∙ print-outline d

pub returns-clause-reads_back : goal.returns-clause-reads_back
returns-clause-reads_back c =
    let m = c.args.manifest.now in
    let d = manifest_data Two m in
    let before = c.in_ok-write_manifest.ensures.before ∙ c.new-writer.ensures.before ∙ c.new.ensures.items in
    let written = c.in_ok-write_manifest.ensures.tokens ∙ ap (λ ts. ts ++ tokens_of d) c.new-writer.ensures.tokens in
    let same : c.into_inner.result.items ≡ compact_text d = c.into_inner.ensures.items ∙ (λ i. before i ++ print (written i)) ∙ print-outline d in
    let utf8 : IsUtf8 (compact_text d) = subst IsUtf8 (ap print written ∙ print-outline d) c.into_inner.ensures.utf8 in
    ap manifest_of same ∙ manifest_is (compact_text d) d (json_read (compact_text d) d utf8 (read_compact d (whole_plain Two m))) ∙ manifest_back Two m c.in_ok-write_manifest.ensures.kept tt
