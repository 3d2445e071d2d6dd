use Rattle.std.proofs.Common.{rules, ◌≡◌, true, sym, ◌∙◌, subst, inr, true≢false}
use Rattle.tree_fs.specs.Spot.{spot_of}
use Rattle.tree_fs.specs.Places.{game_spot}
use Rattle.tree_fs.specs.Listing.{IsListing}
use Rattle.tree_fs.specs.Story.{disk_of}
use Rattle.plan_lists.specs.Off.{AllLeave}
use Rattle.plan_lists.proofs.Leaving.{all_leave-goes, goes-all_leave}
use Rattle.plan_lists.proofs.folders.looked_fate.Goals as goal

pub returns-then-branch-clause-answer : goal.returns-then-branch-clause-answer
returns-then-branch-clause-answer g c = λ told own files plan by among alone below.
    let a = disk_of (g.T.Tree.story c.args.tree.now) in
    let path = c.args.folder.now in
    let entries = c.in_ok-entries.entries.items in
    let is : c.in_ok-is_there.field-0 ≡ true = search rules in
    let there : a.folders (game_spot path) ≡ true = sym (c.in_ok-is_there.ensures.answer told) ∙ is in
    let listing = subst (λ s. IsListing a s entries) c.in_ok-place.ensures (subst (λ t. IsListing (disk_of t) (spot_of c.in_ok-place.place) entries) (c.in_ok-is_there.ensures.same told) (c.in_ok-entries.ensures.answer told)) in
    all_leave-goes a own files c.args.emptied.now c.args.off.now plan path below by among alone there entries listing
    (subst (AllLeave path c.args.emptied.now c.args.off.now) c.deref.ensures.value (c.in_ok-entries_leave.ensures.0 c.if-branch.true))

pub returns-clause-answer : goal.returns-clause-answer
returns-clause-answer g c = λ told own files plan by among alone below.
    let a = disk_of (g.T.Tree.story c.args.tree.now) in
    let path = c.args.folder.now in
    let entries = c.in_ok-entries.entries.items in
    let is : c.in_ok-is_there.field-0 ≡ true = search rules in
    let there : a.folders (game_spot path) ≡ true = sym (c.in_ok-is_there.ensures.answer told) ∙ is in
    let listing = subst (λ s. IsListing a s entries) c.in_ok-place.ensures (subst (λ t. IsListing (disk_of t) (spot_of c.in_ok-place.place) entries) (c.in_ok-is_there.ensures.same told) (c.in_ok-entries.ensures.answer told)) in
    (inr there, λ goes. true≢false (sym (c.in_ok-entries_leave.ensures.1 (subst (AllLeave path c.args.emptied.now c.args.off.now) (sym c.deref.ensures.value) (goes-all_leave a own files c.args.emptied.now c.args.off.now plan path below by among alone there entries listing goes))) ∙ c.if-branch.false))
