use Rattle.std.proofs.Common.{◌≡◌, ◌+◌, ◌<◌, ◌++◌, ◌∷◌, [], true, false, Err, length, map, reverse, drop, sym, ap, subst, ◌∙◌, rules}
use Rattle.std.proofs.lemmas.List.{length_push}
use Rattle.serde_json.specs.View.{view}
use Rattle.manifest_json.specs.declared.spot.Spot.TheVariants.{Folder}
use Rattle.manifest_json.specs.declared.error.ManifestError.TheVariants.{Order}
use Rattle.manifest_json.specs.Folders.{folder_alone, folders_from}
use Rattle.manifest_json.specs.Paths.{is_above}
use Rattle.rel_paths.specs.Names.{IsFreePath}
use Rattle.manifest_json.proofs.Ends.{reverse_push}
use Rattle.manifest_json.proofs.Lines.{AreSteps}
use Rattle.manifest_json.proofs.Steps.{Reads-err}
use Rattle.manifest_json.proofs.RowScans.{all_push, next}
use Rattle.manifest_json.proofs.FolderScans.{folder_hit, folder_order, folder_more, folder_free, folders_rise}
use Rattle.manifest_json.proofs.read_folders.read_folders.Goals as goal

pub returns-in_err-path-clause-reads : goal.returns-in_err-path-clause-reads
returns-in_err-path-clause-reads c =
    let at = c.loop-item in
    let d = view c.item-item.result in
    let ds = map view c.args.items.now in
    let ps = at.folders.items in
    let size : c.len-i.result ≡ length ps = search rules in
    let within : at.item-index < length c.args.items.now = search rules in
    let step : drop at.item-index ds ≡ d ∷ drop (at.item-index + 1) ds = next view c.args.items.now at.item-index c.item-item.result within c.item-item.is in
    Reads-err _ _ c.from_residual-in_err-path.result c.in_err-path.field-0.0 c.from_residual-in_err-path.ensures.1
    (λ n. sym at.invariant.scanned ∙ ap (folders_from (reverse ps) (length ps)) step ∙ folder_hit (reverse ps) (length ps) d (drop (at.item-index + 1) ds) c.in_err-path.field-0.0 (ap (λ k. folder_alone k d) (sym size) ∙ c.in_err-path.ensures n))

pub returns-then-not-is_above-clause-reads : goal.returns-then-not-is_above-clause-reads
returns-then-not-is_above-clause-reads c =
    let at = c.loop-item in
    let d = view c.item-item.result in
    let ds = map view c.args.items.now in
    let ps = at.folders.items in
    let p = c.in_ok-path.path in
    let size : c.len-i.result ≡ length ps = search rules in
    let within : at.item-index < length c.args.items.now = search rules in
    let step : drop at.item-index ds ≡ d ∷ drop (at.item-index + 1) ds = next view c.args.items.now at.item-index c.item-item.result within c.item-item.is in
    let above : is_above (reverse ps) p ≡ false = ap (λ l. is_above (reverse l) p) (sym c.deref.ensures.value) ∙ sym c.is_above.ensures ∙ c.if-not-is_above.true in
    λ n. sym at.invariant.scanned ∙ ap (folders_from (reverse ps) (length ps)) step
    ∙ folder_order (reverse ps) (length ps) d (drop (at.item-index + 1) ds) p (ap (λ k. folder_alone k d) (sym size) ∙ c.in_ok-path.ensures) above ∙ ap (λ k. Err (Order (Folder k))) (sym size)

pub loop-item-preserved : goal.loop-item-preserved
loop-item-preserved c =
    let at = c.loop-item in
    let d = view c.item-item.result in
    let ds = map view c.args.items.now in
    let ps = at.folders.items in
    let p = c.in_ok-path.path in
    let size : c.len-i.result ≡ length ps = search rules in
    let within : at.item-index < length c.args.items.now = search rules in
    let step : drop at.item-index ds ≡ d ∷ drop (at.item-index + 1) ds = next view c.args.items.now at.item-index c.item-item.result within c.item-item.is in
    let above : is_above (reverse ps) p ≡ true = ap (λ l. is_above (reverse l) p) (sym c.deref.ensures.value) ∙ sym c.is_above.ensures ∙ c.if-not-is_above.false in
    let added : c.push_folder.new.folders.items ≡ ps ++ p ∷ [] = search rules in
    let more = folder_more (reverse ps) (length ps) d (drop (at.item-index + 1) ds) p (ap (λ k. folder_alone k d) (sym size) ∙ c.in_ok-path.ensures) above in
    record {
      scanned = (λ i. folders_from (reverse (added i)) (length (added i)) (drop (at.item-index + 1) ds))
          ∙ (λ i. folders_from (reverse_push ps p i) (length_push ps p i) (drop (at.item-index + 1) ds))
          ∙ sym more ∙ ap (folders_from (reverse ps) (length ps)) (sym step) ∙ at.invariant.scanned;
      steps = subst AreSteps (sym (ap reverse added ∙ reverse_push ps p)) (above, at.invariant.steps);
      kept = rw added (all_push IsFreePath ps p at.invariant.kept (folder_free c.len-i.result d p c.in_ok-path.ensures));
    }

pub returns-clause-kept : goal.returns-clause-kept
returns-clause-kept c = record { good = c.loop-item.invariant.kept; rise = folders_rise c.loop-item.folders.items c.loop-item.invariant.steps }
