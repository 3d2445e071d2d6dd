use Rattle.std.proofs.Common.{sym, ap, ◌∙◌}
use Rattle.tree_fs.specs.Spot.{spot_of, is_entry, names_below}
use Rattle.rel_paths.specs.Names.{names_of}
use Rattle.tree_mem.proofs.Entering.{same_root, is_entry-cut, not_entry-root, not_entry-elsewhere, lies_there}
use Rattle.tree_mem.proofs.text.lies_in.Goals as goal

pub returns-then-eq : goal.returns-then-eq
returns-then-eq c =
    let at = c.args.at.now in
    let folder = spot_of c.args.folder.now in
    let e = is_entry-cut folder at.root (names_below at.rel) _ _ _ (ap names_below c.in-Some.is ∙ ap names_of (sym c.text.ensures.same) ∙ c.split_last.ensures.names) c.folder_text.ensures in
    c.eq-then-eq.ensures ∙ sym (lies_there _ _ _ (sym (same_root at.root folder.root) ∙ sym c.eq.ensures ∙ c.if-eq.true) e)

pub returns-else-eq : goal.returns-else-eq
returns-else-eq c =
    let at = c.args.at.now in
    let folder = spot_of c.args.folder.now in
    c.if-eq.false ∙ sym (not_entry-elsewhere folder at.root (names_below at.rel) (sym (same_root at.root folder.root) ∙ sym c.eq.ensures ∙ c.if-eq.false))

pub returns-in-None : goal.returns-in-None
returns-in-None c = sym (ap (λ ns. is_entry (spot_of c.args.folder.now) (record { root = c.args.at.now.root; names = ns })) (ap names_below c.in-None.is) ∙ not_entry-root (spot_of c.args.folder.now) c.args.at.now.root)
