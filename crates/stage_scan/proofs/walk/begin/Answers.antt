use Rattle.std.proofs.Common.{rules, ◌≡◌, [], ◌++◌, map, reverse, sym, ap, ◌∙◌, subst}
use Rattle.std.specs.declared.option.Option.TheVariants.{None}
use Rattle.tree_fs.specs.declared.name.Kind.TheVariants.{Folder}
use Rattle.tree_fs.specs.Places.{mod_spot}
use Rattle.tree_fs.specs.Disk.{kind_of}
use Rattle.tree_fs.specs.Story.{disk_of}
use Rattle.tree_fs.specs.Listing.{IsListing}
use Rattle.stage_scan.specs.Walks.{inside}
use Rattle.stage_scan.specs.Stack.{IsWalkAt, entry_below}
use Rattle.stage_scan.proofs.Visits.{walk_start, users_put}
use Rattle.stage_scan.proofs.walk.begin.Goals as goal

pub returns-clause-told : goal.returns-clause-told
returns-clause-told g c = λ told.
    let tree = g.T.Tree in
    let id = c.args.id.now in
    let d = disk_of (tree.story c.args.tree.now) in
    let is : c.in_ok-kind.field-0 ≡ Folder = search rules in
    let folder : kind_of d (mod_spot id) ≡ Folder = ap (kind_of d) (sym c.in_ok-root.ensures) ∙ sym (c.in_ok-kind.ensures.answer told) ∙ is in
    let put = c.in_ok-enter.ensures.put in
    let listing = subst (λ s. IsListing (disk_of s) (inside id []) put.entries) (c.in_ok-kind.ensures.same told) (put.told told) in
    let stack : c.enter.new.stack.items ≡ map (entry_below None) (reverse put.entries) = put.put ∙ ap (λ l. l ++ map (entry_below None) (reverse put.entries)) c.new.ensures.items in
    (folder, subst (λ s. IsWalkAt d id s 0 c.new-2.result.items) (sym stack) (subst (IsWalkAt d id (map (entry_below None) (reverse put.entries)) 0) (sym c.new-2.ensures.items) (walk_start d id put.entries (g.met.T.Tree.valid c.args.tree.now told) listing)))

pub returns-clause-users : goal.returns-clause-users
returns-clause-users g c = users_put None _ _ (λ e. tt) (rw c.new.ensures.items tt) c.in_ok-enter.ensures.put
