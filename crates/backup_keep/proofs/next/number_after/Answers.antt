use Rattle.std.proofs.Common.{subst}
use Rattle.tree_fs.specs.Story.{disk_of}
use Rattle.tree_fs.specs.Listing.{entry_names, IsListing}
use Rattle.backup_keep.specs.Asides.{IsGreatest}
use Rattle.backup_keep.proofs.Numbered.{next_number, last_number}
use Rattle.backup_keep.proofs.next.number_after.Goals as goal

pub returns-then-greatest-clause-refused : goal.returns-then-greatest-clause-refused
returns-then-greatest-clause-refused g c told =
    let disk = disk_of (g.T.Tree.story c.args.tree.now) in
    let entries = c.in_ok-entries.entries.items in
    let listing = subst (λ s. IsListing disk s entries) c.requires.folder (c.in_ok-entries.ensures.answer told) in
    let greatest = subst (λ es. IsGreatest (entry_names es) c.greatest-greatest.result) c.deref.ensures.value c.greatest-greatest.ensures in
    last_number disk entries listing c.greatest-greatest.result greatest c.if-greatest.true

pub returns-clause-next : goal.returns-clause-next
returns-clause-next g c told =
    let disk = disk_of (g.T.Tree.story c.args.tree.now) in
    let entries = c.in_ok-entries.entries.items in
    let listing = subst (λ s. IsListing disk s entries) c.requires.folder (c.in_ok-entries.ensures.answer told) in
    let greatest = subst (λ es. IsGreatest (entry_names es) c.greatest-greatest.result) c.deref.ensures.value c.greatest-greatest.ensures in
    next_number disk entries listing c.greatest-greatest.result greatest
