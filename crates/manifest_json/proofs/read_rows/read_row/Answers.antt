use Rattle.std.proofs.Common.{sym, ap, ◌∙◌}
use Rattle.serde_json.specs.View.{view}
use Rattle.manifest_json.proofs.Steps.{Reads-err}
use Rattle.manifest_json.proofs.RowFacts.{no_digest, no_mod, no_path, no_flag, no_source, bad_mod, bad_path, bad_source, good_row, good_is, row_with}
use Rattle.manifest_json.proofs.Good.{row_means}
use Rattle.manifest_json.specs.Rows.{text_at}
use Rattle.manifest_json.proofs.read_rows.read_row.Goals as goal

pub returns-in_default-clause-reads : goal.returns-in_default-clause-reads
returns-in_default-clause-reads c = λ n. no_digest c.args.version c.args.i (view c.args.value.now) (sym c.in_default.ensures)

pub returns-in_default-text_at-clause-reads : goal.returns-in_default-text_at-clause-reads
returns-in_default-text_at-clause-reads c = λ n. no_mod c.args.version c.args.i (view c.args.value.now) c.in-Some.digest (sym c.in-Some.ensures) (sym c.in_default-text_at.ensures)

pub returns-in_default-text_at-2-clause-reads : goal.returns-in_default-text_at-2-clause-reads
returns-in_default-text_at-2-clause-reads c = λ n. no_path c.args.version c.args.i (view c.args.value.now) c.in-Some.digest (sym c.in-Some.ensures) c.in-Some-text_at.id_text.now (sym c.in-Some-text_at.ensures) (sym c.in_default-text_at-2.ensures)

pub returns-in_default-flag_at-clause-reads : goal.returns-in_default-flag_at-clause-reads
returns-in_default-flag_at-clause-reads c = λ n. no_flag c.args.version c.args.i (view c.args.value.now) c.in-Some.digest (sym c.in-Some.ensures) c.in-Some-text_at.id_text.now (sym c.in-Some-text_at.ensures) c.in-Some-text_at-2.path_text.now (sym c.in-Some-text_at-2.ensures) (sym c.in_default-flag_at.ensures)

pub returns-in_default-text_at-3-clause-reads : goal.returns-in_default-text_at-3-clause-reads
returns-in_default-text_at-3-clause-reads c =
    λ n. no_source c.args.version c.args.i (view c.args.value.now) c.in-Some.digest (sym c.in-Some.ensures) c.in-Some-text_at.id_text.now (sym c.in-Some-text_at.ensures) c.in-Some-text_at-2.path_text.now (sym c.in-Some-text_at-2.ensures) c.in-Some-flag_at.shadowed (sym c.in-Some-flag_at.ensures)
    (ap (λ k. text_at k (view c.args.value.now)) (sym c.source_key.ensures) ∙ sym c.in_default-text_at-3.ensures)

pub returns-in_err-mod_id-clause-reads : goal.returns-in_err-mod_id-clause-reads
returns-in_err-mod_id-clause-reads c =
    Reads-err _ _ c.from_residual.result c.in_err-mod_id.field-0.0 c.from_residual.ensures.1
    (λ n. bad_mod c.args.version c.args.i (view c.args.value.now) c.in-Some.digest (sym c.in-Some.ensures) c.in-Some-text_at.id_text.now (sym c.in-Some-text_at.ensures) c.in-Some-text_at-2.path_text.now (sym c.in-Some-text_at-2.ensures) c.in-Some-flag_at.shadowed (sym c.in-Some-flag_at.ensures) c.in-Some-text_at-3.source_text.now (ap (λ k. text_at k (view c.args.value.now)) (sym c.source_key.ensures) ∙ sym c.in-Some-text_at-3.ensures) c.in_err-mod_id.field-0.0 (c.in_err-mod_id.ensures n))

pub returns-in_err-path-clause-reads : goal.returns-in_err-path-clause-reads
returns-in_err-path-clause-reads c =
    Reads-err _ _ c.from_residual-in_err-path.result c.in_err-path.field-0.0 c.from_residual-in_err-path.ensures.1
    (λ n. bad_path c.args.version c.args.i (view c.args.value.now) c.in-Some.digest (sym c.in-Some.ensures) c.in-Some-text_at.id_text.now (sym c.in-Some-text_at.ensures) c.in-Some-text_at-2.path_text.now (sym c.in-Some-text_at-2.ensures) c.in-Some-flag_at.shadowed (sym c.in-Some-flag_at.ensures) c.in-Some-text_at-3.source_text.now (ap (λ k. text_at k (view c.args.value.now)) (sym c.source_key.ensures) ∙ sym c.in-Some-text_at-3.ensures)
    c.in_ok-mod_id.mod_id c.in_ok-mod_id.ensures c.in_err-path.field-0.0 (c.in_err-path.ensures n))

pub returns-in_err-source-clause-reads : goal.returns-in_err-source-clause-reads
returns-in_err-source-clause-reads c =
    Reads-err _ _ c.from_residual-in_err-source.result c.in_err-source.field-0.0 c.from_residual-in_err-source.ensures.1
    (λ n. bad_source c.args.version c.args.i (view c.args.value.now) c.in-Some.digest (sym c.in-Some.ensures) c.in-Some-text_at.id_text.now (sym c.in-Some-text_at.ensures) c.in-Some-text_at-2.path_text.now (sym c.in-Some-text_at-2.ensures) c.in-Some-flag_at.shadowed (sym c.in-Some-flag_at.ensures)
    c.in-Some-text_at-3.source_text.now (ap (λ k. text_at k (view c.args.value.now)) (sym c.source_key.ensures) ∙ sym c.in-Some-text_at-3.ensures)
    c.in_ok-mod_id.mod_id c.in_ok-mod_id.ensures c.in_ok-path.path c.in_ok-path.ensures c.in_err-source.field-0.0 (c.in_err-source.ensures n))

pub returns-clause-reads : goal.returns-clause-reads
returns-clause-reads c =
    good_row c.args.version c.args.i (view c.args.value.now) c.in-Some.digest (sym c.in-Some.ensures) c.in-Some-text_at.id_text.now (sym c.in-Some-text_at.ensures) c.in-Some-text_at-2.path_text.now (sym c.in-Some-text_at-2.ensures) c.in-Some-flag_at.shadowed (sym c.in-Some-flag_at.ensures)
    c.in-Some-text_at-3.source_text.now (ap (λ k. text_at k (view c.args.value.now)) (sym c.source_key.ensures) ∙ sym c.in-Some-text_at-3.ensures)
    c.in_ok-mod_id.mod_id c.in_ok-mod_id.ensures c.in_ok-path.path c.in_ok-path.ensures c.in_ok-source.source c.in_ok-source.ensures

pub returns-clause-kept : goal.returns-clause-kept
returns-clause-kept c =
    row_means (row_with c.in-Some.digest c.in_ok-mod_id.mod_id c.in_ok-path.path c.in-Some-flag_at.shadowed c.in_ok-source.source)
    (good_is c.args.version c.args.i (view c.args.value.now) _
    (good_row c.args.version c.args.i (view c.args.value.now) c.in-Some.digest (sym c.in-Some.ensures) c.in-Some-text_at.id_text.now (sym c.in-Some-text_at.ensures) c.in-Some-text_at-2.path_text.now (sym c.in-Some-text_at-2.ensures) c.in-Some-flag_at.shadowed (sym c.in-Some-flag_at.ensures)
    c.in-Some-text_at-3.source_text.now (ap (λ k. text_at k (view c.args.value.now)) (sym c.source_key.ensures) ∙ sym c.in-Some-text_at-3.ensures)
    c.in_ok-mod_id.mod_id c.in_ok-mod_id.ensures c.in_ok-path.path c.in_ok-path.ensures c.in_ok-source.source c.in_ok-source.ensures))
