use Rattle.std.proofs.Common.{◌≡◌, ◌+◌, ◌++◌, ◌∷◌, [], take, sym, ap, ◌∙◌, subst}
use Rattle.std.proofs.lemmas.List.{map-append}
use Rattle.list_laws.proofs.Lists.{one_more}
use Rattle.tree_fs.specs.declared.name.Entry.{Entry}
use Rattle.tree_fs.specs.Listing.{entry_names}
use Rattle.backup_keep.specs.Asides.{IsGreatest}
use Rattle.backup_keep.proofs.number.greatest.Goals as goal

pub loop-entry-preserved : goal.loop-entry-preserved
loop-entry-preserved c =
    let i = c.loop-entry.entry-index in
    let entries = c.args.entries.now in
    let names : entry_names (take (i + 1) entries) ≡ entry_names (take i entries) ++ c.text.result.now ∷ [] =
    ap entry_names (one_more entries i c.entry-item.result c.loop-entry-test.true c.entry-item.is)
    ∙ map-append (λ (e : Entry). e.name) (take i entries) (c.entry-item.result ∷ [])
    ∙ ap (λ n. entry_names (take i entries) ++ n ∷ []) (sym c.text.ensures.same) in
    subst (λ l. IsGreatest l c.with_name-greatest.result) (sym names)
    (c.with_name-greatest.ensures (entry_names (take i entries)) c.loop-entry.invariant)
