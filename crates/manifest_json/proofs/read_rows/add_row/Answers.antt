use Rattle.std.proofs.Common.{◌≡◌, ◌∷◌, true, false, Err, length, map, reverse, sym, ap, subst, ◌∙◌, rules}
use Rattle.manifest_json.specs.declared.spot.Spot.TheVariants.{File}
use Rattle.manifest_json.specs.declared.error.ManifestError.TheVariants.{Order, Nested}
use Rattle.std.specs.List.{list_any}
use Rattle.manifest_json.specs.Paths.{is_above}
use Rattle.rel_paths.specs.Names.{extends}
use Rattle.manifest_json.specs.Records.{paths_of}
use Rattle.manifest_json.specs.Stack.{still_open, open_of, extends_first, IsLine}
use Rattle.manifest_json.proofs.Ends.{reverse_push}
use Rattle.manifest_json.proofs.Stacks.{nested_is}
use Rattle.manifest_json.proofs.RowFacts.{behind_ok, behind_order, behind_nested}
use Rattle.manifest_json.proofs.read_rows.add_row.Goals as goal

pub returns-then-not-is_above-clause-err : goal.returns-then-not-is_above-clause-err
returns-then-not-is_above-clause-err c =
    let rows = c.args.rows.now.items in
    let p = c.args.row.path in
    let above : is_above (paths_of (reverse rows)) p ≡ false = ap (λ l. is_above (paths_of (reverse l)) p) (sym c.deref.ensures.value) ∙ sym c.is_above.ensures ∙ c.if-not-is_above.true in
    let size : c.len.result ≡ length rows = search rules in
    λ n. behind_order (reverse rows) (length rows) c.args.row above ∙ ap (λ k. Err (Order (File k))) (sym size)

pub returns-then-extends_last-clause-err : goal.returns-then-extends_last-clause-err
returns-then-extends_last-clause-err c =
    let rows = c.args.rows.now.items in
    let ps = paths_of (reverse rows) in
    let p = c.args.row.path in
    let above : is_above ps p ≡ true = ap (λ l. is_above (paths_of (reverse l)) p) (sym c.deref.ensures.value) ∙ sym c.is_above.ensures ∙ c.if-not-is_above.false in
    let open_is = c.close.ensures ∙ ap (still_open c.args.path.now) c.requires.stacked.stack in
    let first : extends_first c.args.path.now (still_open c.args.path.now (open_of ps)) ≡ true =
    ap (extends_first c.args.path.now) (sym open_is) ∙ ap (λ l. extends_first c.args.path.now (reverse (map (λ t. t.now) l))) (sym c.deref-2.ensures.value) ∙ sym c.extends_last.ensures ∙ c.if-extends_last.true in
    let nested : list_any (extends p) ps ≡ true = nested_is ps p c.requires.stacked.line above ∙ ap (λ t. extends_first t (still_open t (open_of ps))) (sym c.requires.same) ∙ first in
    let size : c.len.result ≡ length rows = search rules in
    λ n. behind_nested (reverse rows) (length rows) c.args.row above nested ∙ ap (λ k. Err (Nested (File k))) (sym size)

pub returns-clause-behind : goal.returns-clause-behind
returns-clause-behind c =
    let rows = c.args.rows.now.items in
    let ps = paths_of (reverse rows) in
    let p = c.args.row.path in
    let above : is_above ps p ≡ true = ap (λ l. is_above (paths_of (reverse l)) p) (sym c.deref.ensures.value) ∙ sym c.is_above.ensures ∙ c.if-not-is_above.false in
    let open_is = c.close.ensures ∙ ap (still_open c.args.path.now) c.requires.stacked.stack in
    let first : extends_first c.args.path.now (still_open c.args.path.now (open_of ps)) ≡ false =
    ap (extends_first c.args.path.now) (sym open_is) ∙ ap (λ l. extends_first c.args.path.now (reverse (map (λ t. t.now) l))) (sym c.deref-2.ensures.value) ∙ sym c.extends_last.ensures ∙ c.if-extends_last.false in
    let flat : list_any (extends p) ps ≡ false = nested_is ps p c.requires.stacked.line above ∙ ap (λ t. extends_first t (still_open t (open_of ps))) (sym c.requires.same) ∙ first in
    behind_ok (reverse rows) (length rows) c.args.row above flat

pub returns-clause-stacked : goal.returns-clause-stacked
returns-clause-stacked c =
    let rows = c.args.rows.now.items in
    let ps = paths_of (reverse rows) in
    let p = c.args.row.path in
    let above : is_above ps p ≡ true = ap (λ l. is_above (paths_of (reverse l)) p) (sym c.deref.ensures.value) ∙ sym c.is_above.ensures ∙ c.if-not-is_above.false in
    let open_is = c.close.ensures ∙ ap (still_open c.args.path.now) c.requires.stacked.stack in
    let first : extends_first c.args.path.now (still_open c.args.path.now (open_of ps)) ≡ false =
    ap (extends_first c.args.path.now) (sym open_is) ∙ ap (λ l. extends_first c.args.path.now (reverse (map (λ t. t.now) l))) (sym c.deref-2.ensures.value) ∙ sym c.extends_last.ensures ∙ c.if-extends_last.false in
    let flat : list_any (extends p) ps ≡ false = nested_is ps p c.requires.stacked.line above ∙ ap (λ t. extends_first t (still_open t (open_of ps))) (sym c.requires.same) ∙ first in
    let rows_are = ap (λ l. paths_of (reverse l)) c.in_ok-push_row.ensures.rows ∙ ap paths_of (reverse_push rows c.args.row) in
    let texts = map (λ t. t.now) c.close.new.stack.items in
    record {
      line = subst IsLine (sym rows_are) (above, flat, c.requires.stacked.line);
      stack = ap reverse c.in_ok-push_row.ensures.stack ∙ reverse_push texts c.args.path.now ∙ ap (λ l. c.args.path.now ∷ l) open_is ∙ ap (λ t. t ∷ still_open t (open_of ps)) c.requires.same ∙ ap open_of (sym rows_are);
    }
