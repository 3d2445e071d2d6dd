use Rattle.std.proofs.Common.{rules, ◌≡◌, ◌≢◌, ◌+◌, sym, subst}
use Rattle.std.specs.declared.option.Option.TheVariants.{Some}
use Rattle.tree_fs.specs.declared.name.Kind.TheVariants.{File, Folder}
use Rattle.tree_fs.specs.Story.{disk_of}
use Rattle.stage_scan.specs.Stack.{IsWalkAt}
use Rattle.stage_scan.proofs.Visits.{visit_folder, visit_file, visit_other, users_put}
use Rattle.stage_scan.proofs.walk.Walk.visit.Goals as goal

pub returns-then-eq-clause-walked : goal.returns-then-eq-clause-walked
returns-then-eq-clause-walked g c = λ told count at.
    let d = disk_of (g.T.Tree.story c.args.tree.now) in
    let found = c.in_ok-path.ensures.ok in
    let folder : c.args.next.entry.kind ≡ Folder = search rules in
    let put = c.in_ok-enter.ensures.put in
    visit_folder d c.args.id.now _ c.args.next count _ (g.met.T.Tree.valid c.args.tree.now told) at c.in_ok-path.path _ found.2 found.0 folder (record { entries = put.entries; told = put.told told; put = put.put })

pub returns-then-eq-clause-users : goal.returns-then-eq-clause-users
returns-then-eq-clause-users g c = users_put (Some c.in_ok-path.path) _ _ (λ e. c.in_ok-path.ensures.ok.1) c.requires.users c.in_ok-enter.ensures.put

pub returns-then-eq-2-clause-walked : goal.returns-then-eq-2-clause-walked
returns-then-eq-2-clause-walked g c = λ told count at.
    let d = disk_of (g.T.Tree.story c.args.tree.now) in
    let found = c.in_ok-path.ensures.ok in
    let is : c.args.next.entry.kind ≡ File = search rules in
    subst (IsWalkAt d c.args.id.now c.args.self.now.stack.items (count + 1)) (sym c.in_ok-push.ensures.items)
    (visit_file d c.args.id.now _ c.args.next count _ (g.met.T.Tree.valid c.args.tree.now told) at c.in_ok-path.path found.2 found.0 is)

pub returns-clause-walked : goal.returns-clause-walked
returns-clause-walked g c = λ told count at.
    let d = disk_of (g.T.Tree.story c.args.tree.now) in
    let no_folder : c.args.next.entry.kind ≢ Folder = search rules in
    let no_file : c.args.next.entry.kind ≢ File = search rules in
    visit_other d c.args.id.now _ c.args.next count _ (g.met.T.Tree.valid c.args.tree.now told) at c.in_ok-path.ensures.ok.2 no_folder no_file
