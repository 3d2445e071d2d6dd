use Rattle.std.proofs.Common.{◌≡◌, [], length, subst, rules}
use Rattle.tree_fs.specs.Story.{disk_of}
use Rattle.stage_scan.specs.Walks.{IsRefused}
use Rattle.stage_scan.specs.Stack.{IsWalkAt}
use Rattle.stage_scan.proofs.Results.{same_count, too_many, entry_refused}
use Rattle.list_laws.proofs.Truths.{if_err-from_same}
use Rattle.std.proofs.lemmas.List.{nil_from_length}
use Rattle.stage_scan.proofs.walk.Walk.walk.Goals as goal

pub returns-in_err-visit-clause-err : goal.returns-in_err-visit-clause-err
returns-in_err-visit-clause-err g c = λ told.
    let d = disk_of (g.T.Tree.story c.args.tree.now) in
    let at = subst (λ s. IsWalkAt d c.args.id.now s c.loop-count.count c.loop-count.self.files.items) c.in-Some.ensures.items (c.loop-count.invariant.told told) in
    if_err-from_same (IsRefused d c.args.id.now c.args.most) c.from_residual.result c.in_err-visit.field-0.0 c.from_residual.ensures.1
    (entry_refused d c.args.id.now c.loop-count.count c.args.most c.loop-count.self.files.items (g.met.T.Tree.valid c.args.tree.now told) (c.requires.folder told) c.pop.new.self.items c.in-Some.next c.in_err-visit.field-0.0 at c.loop-count-test.true c.in_err-visit.ensures.refused)

pub returns-then-is_empty-clause-ok : goal.returns-then-is_empty-clause-ok
returns-then-is_empty-clause-ok g c = λ told.
    let d = disk_of (g.T.Tree.story c.args.tree.now) in
    let zero : length c.loop-count.self.stack.items ≡ 0 = search rules in
    let none = nil_from_length c.loop-count.self.stack.items zero in
    let all = same_count c.loop-count.count c.args.most c.loop-count.invariant.within c.loop-count-test.false in
    subst (λ n. IsWalkAt d c.args.id.now [] n c.loop-count.self.files.items) all
    (subst (λ s. IsWalkAt d c.args.id.now s c.loop-count.count c.loop-count.self.files.items) none (c.loop-count.invariant.told told))

pub returns-else-is_empty-clause-err : goal.returns-else-is_empty-clause-err
returns-else-is_empty-clause-err g c = λ told.
    too_many (disk_of (g.T.Tree.story c.args.tree.now)) c.args.id.now c.loop-count.count c.args.most c.loop-count.self.files.items (g.met.T.Tree.valid c.args.tree.now told) (c.requires.folder told) c.loop-count.self.stack.items (c.loop-count.invariant.told told)
    (λ z. search rules) (same_count c.loop-count.count c.args.most c.loop-count.invariant.within c.loop-count-test.false)
