use Rattle.std.proofs.Common.{◌≡◌, ℕ, List, ◌+◌, ◌<◌, ◌∷◌, [], false, true, Err, length, map, reverse, drop, sym, ap, subst, ◌∙◌, rules}
use Rattle.serde_json.specs.View.{view}
use Rattle.std.specs.List.{list_any}
use Rattle.std.proofs.lemmas.List.{length_push, reverse-reverse}
use Rattle.manifest_json.specs.declared.error.ManifestError.TheVariants.{Source}
use Rattle.manifest_json.specs.declared.spot.Spot.TheVariants.{File}
use Rattle.manifest_json.specs.Apart.{HasApartSources}
use Rattle.manifest_json.specs.Rows.{row_alone, rows_from}
use Rattle.manifest_json.specs.Sound.{IsRow}
use Rattle.manifest_json.specs.Sources.{meets, is_met, AreUnmet, IsTold, HasAdded}
use Rattle.manifest_json.proofs.Beside.{unmet_apart}
use Rattle.manifest_json.proofs.Ends.{reverse_push}
use Rattle.manifest_json.proofs.Lookups.{met_is, told_none, told_more}
use Rattle.manifest_json.proofs.Steps.{Reads-err}
use Rattle.manifest_json.proofs.RowFacts.{path_is, id_is, source_is, beside_ok, beside_met}
use Rattle.manifest_json.proofs.RowScans.{scan_alone, scan_behind, scan_beside, scan_more, all_push, rows_rise, rows_flat, next}
use Rattle.manifest_json.proofs.read_rows.read_rows.Goals as goal

pub returns-in_err-row-clause-reads : goal.returns-in_err-row-clause-reads
returns-in_err-row-clause-reads c =
    let at = c.loop-item in
    let d = view c.item-item.result in
    let ds = map view c.args.items.now in
    let rows = at.rows.items in
    let size : c.len-i.result ≡ length rows = search rules in
    let within : at.item-index < length c.args.items.now = search rules in
    let step : drop at.item-index ds ≡ d ∷ drop (at.item-index + 1) ds = next view c.args.items.now at.item-index c.item-item.result within c.item-item.is in
    Reads-err _ _ c.from_residual-in_err-row.result c.in_err-row.field-0.0 c.from_residual-in_err-row.ensures.1
    (λ n. sym at.invariant.scanned ∙ ap (rows_from c.args.version (reverse rows) (length rows)) step
    ∙ scan_alone c.args.version (reverse rows) (length rows) d (drop (at.item-index + 1) ds) c.in_err-row.field-0.0 (ap (λ k. row_alone c.args.version k d) (sym size) ∙ c.in_err-row.ensures.reads n))

pub add_row-requires-clause-same : goal.add_row-requires-clause-same
add_row-requires-clause-same c = c.path_in.ensures ∙ path_is c.args.version c.len-i.result (view c.item-item.result) c.in_ok-row.row c.in_ok-row.ensures.reads

pub returns-in_err-add_row-clause-reads : goal.returns-in_err-add_row-clause-reads
returns-in_err-add_row-clause-reads c =
    let at = c.loop-item in
    let d = view c.item-item.result in
    let ds = map view c.args.items.now in
    let rows = at.rows.items in
    let size : c.len-i.result ≡ length rows = search rules in
    let within : at.item-index < length c.args.items.now = search rules in
    let step : drop at.item-index ds ≡ d ∷ drop (at.item-index + 1) ds = next view c.args.items.now at.item-index c.item-item.result within c.item-item.is in
    Reads-err _ _ c.from_residual-in_err-add_row.result c.in_err-add_row.field-0.0 c.from_residual-in_err-add_row.ensures.1
    (λ n. sym at.invariant.scanned ∙ ap (rows_from c.args.version (reverse rows) (length rows)) step
    ∙ scan_behind c.args.version (reverse rows) (length rows) d (drop (at.item-index + 1) ds) c.in_ok-row.row c.in_err-add_row.field-0.0 (ap (λ k. row_alone c.args.version k d) (sym size) ∙ c.in_ok-row.ensures.reads) (c.in_err-add_row.ensures.err n))

pub returns-in_err-add_source-clause-reads : goal.returns-in_err-add_source-clause-reads
returns-in_err-add_source-clause-reads c =
    let at = c.loop-item in
    let d = view c.item-item.result in
    let ds = map view c.args.items.now in
    let rows = at.rows.items in
    let row = c.in_ok-row.row in
    let size : c.len-i.result ≡ length rows = search rules in
    let within : at.item-index < length c.args.items.now = search rules in
    let step : drop at.item-index ds ≡ d ∷ drop (at.item-index + 1) ds = next view c.args.items.now at.item-index c.item-item.result within c.item-item.is in
    let id : c.id_in.result.now ≡ row.mod_id = c.id_in.ensures ∙ id_is c.args.version c.len-i.result d row c.in_ok-row.ensures.reads in
    let source : c.source_in.result.now ≡ row.source = c.source_in.ensures ∙ source_is c.args.version c.len-i.result d row c.in_ok-row.ensures.reads in
    Reads-err _ _ c.from_residual-in_err-add_source.result c.in_err-add_source.field-0.0 c.from_residual-in_err-add_source.ensures.1
    (λ n. let err = c.in_err-add_source.ensures.err n in
    let met : list_any (meets row) (reverse rows) ≡ true = sym (met_is (reverse rows) at.sources at.invariant.told row) ∙ (λ i. is_met at.sources (sym id i) (sym source i)) ∙ err.0 in
    sym at.invariant.scanned ∙ ap (rows_from c.args.version (reverse rows) (length rows)) step
    ∙ scan_beside c.args.version (reverse rows) (length rows) d (drop (at.item-index + 1) ds) row (Source (File (length rows))) (ap (λ k. row_alone c.args.version k d) (sym size) ∙ c.in_ok-row.ensures.reads) c.in_ok-add_row.ensures.behind (beside_met (reverse rows) (length rows) row met)
    ∙ ap (λ k. Err (Source (File k))) (sym size) ∙ ap Err (sym err.1))

pub loop-item-preserved : goal.loop-item-preserved
loop-item-preserved c =
    let at = c.loop-item in
    let d = view c.item-item.result in
    let ds = map view c.args.items.now in
    let rows = at.rows.items in
    let row = c.in_ok-row.row in
    let size : c.len-i.result ≡ length rows = search rules in
    let within : at.item-index < length c.args.items.now = search rules in
    let step : drop at.item-index ds ≡ d ∷ drop (at.item-index + 1) ds = next view c.args.items.now at.item-index c.item-item.result within c.item-item.is in
    let added = c.in_ok-add_row.ensures.added in
    let id : c.id_in.result.now ≡ row.mod_id = c.id_in.ensures ∙ id_is c.args.version c.len-i.result d row c.in_ok-row.ensures.reads in
    let source : c.source_in.result.now ≡ row.source = c.source_in.ensures ∙ source_is c.args.version c.len-i.result d row c.in_ok-row.ensures.reads in
    let unmet : list_any (meets row) (reverse rows) ≡ false = sym (met_is (reverse rows) at.sources at.invariant.told row) ∙ (λ i. is_met at.sources (sym id i) (sym source i)) ∙ c.in_ok-add_source.ensures.apart in
    let more = scan_more c.args.version (reverse rows) (length rows) d (drop (at.item-index + 1) ds) row (ap (λ k. row_alone c.args.version k d) (sym size) ∙ c.in_ok-row.ensures.reads) c.in_ok-add_row.ensures.behind (beside_ok (reverse rows) (length rows) row unmet) in
    let turned : reverse c.add_row.new.rows.items ≡ row ∷ reverse rows = ap reverse added ∙ reverse_push rows row in
    let new : HasAdded row.mod_id row.source at.sources c.add_source.new.sources = subst (λ (t : List ℕ × List ℕ). HasAdded t.0 t.1 at.sources c.add_source.new.sources) (λ i. (id i, source i)) c.in_ok-add_source.ensures.added in
    record {
      scanned = (λ i. rows_from c.args.version (reverse (added i)) (length (added i)) (drop (at.item-index + 1) ds))
          ∙ (λ i. rows_from c.args.version (reverse_push rows row i) (length_push rows row i) (drop (at.item-index + 1) ds))
          ∙ sym more ∙ ap (rows_from c.args.version (reverse rows) (length rows)) (sym step) ∙ at.invariant.scanned;
      stacked = c.in_ok-add_row.ensures.stacked;
      told = subst (λ l. IsTold l c.add_source.new.sources) (sym turned) (told_more (reverse rows) at.sources at.invariant.told row c.add_source.new.sources new);
      unmet = subst AreUnmet (sym turned) (unmet, at.invariant.unmet);
      kept = rw added (all_push IsRow rows row at.invariant.kept c.in_ok-row.ensures.kept);
    }

pub returns-clause-kept : goal.returns-clause-kept
returns-clause-kept c =
    let at = c.loop-item in
    let rows = at.rows.items in
    record {
      good = at.invariant.kept;
      rise = rows_rise rows at.invariant.stacked.line;
      flat = rows_flat rows at.invariant.stacked.line;
      apart = subst HasApartSources (reverse-reverse rows) (unmet_apart (reverse rows) at.invariant.unmet);
    }
