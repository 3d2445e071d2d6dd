use Rattle.std.proofs.Common.{[], subst}
use Rattle.tree_fs.specs.Story.{disk_of}
use Rattle.stage_scan.specs.Stack.{IsWalkAt}
use Rattle.stage_scan.specs.Walks.{IsRefused}
use Rattle.stage_scan.proofs.Results.{are_files, counts_inside}
use Rattle.list_laws.proofs.Truths.{if_err-from_same}
use Rattle.stage_scan.proofs.scan.scan_mod.Goals as goal

pub returns-clause-answer : goal.returns-clause-answer
returns-clause-answer g c = λ told.
    let d = disk_of (g.T.Tree.story c.args.tree.now) in
    let found = c.walk.new.self.files.items in
    let at = subst (λ s. IsWalkAt (disk_of s) c.args.id.now [] c.in_ok-entries.entries found) (c.in_ok-walk.ensures.same told) (c.in_ok-entries.ensures.ok told) in
    record {
      same = c.in_ok-mod_id.ensures;
      folder = (c.in_ok-walk.ensures.told told).0;
      files = are_files d c.args.id.now c.in_ok-entries.entries found at.walked c.in_ok-files.files c.in_ok-files.ensures.order c.in_ok-files.ensures.same;
      entries = counts_inside d c.args.id.now c.in_ok-entries.entries found at.walked;
    }

pub returns-in_err-walk-clause-refused : goal.returns-in_err-walk-clause-refused
returns-in_err-walk-clause-refused g c = λ told.
    let d = disk_of (g.T.Tree.story c.args.tree.now) in
    if_err-from_same (IsRefused d c.args.id.now c.args.most) c.from_residual-in_err-walk.result c.in_err-walk.field-0.0 c.from_residual-in_err-walk.ensures.1 (c.in_err-walk.ensures.refused told c.args.most)
