use Rattle.std.proofs.Common.{◌≤◌, ap, ◌∙◌, subst, map, take_all, arith}
use Rattle.std.specs.List.{Contains}
use Rattle.tree_fs.specs.Spot.{spot_of}
use Rattle.tree_fs.specs.Disk.{kind_of}
use Rattle.tree_fs.specs.Story.{disk_of}
use Rattle.change_settle.proofs.Looked.{looked_more, among_more}
use Rattle.change_settle.proofs.Walked.{seen_next}
use Rattle.change_settle.proofs.looks.look_at.Goals as goal

pub loop-place-preserved : goal.loop-place-preserved
loop-place-preserved g c =
    let start = g.T.Tree.story c.args.tree.now in
    let a = disk_of start in
    let folders = c.args.folders.now in
    let i = c.loop-place.place-index in
    let place = c.place-item.result in
    let before : g.T.Tree.faults c.args.tree.now ≤ g.T.Tree.faults c.loop-place.tree = c.loop-place.invariant.later in
    let after : g.T.Tree.faults c.loop-place.tree ≤ g.T.Tree.faults c.kind.new.self = c.kind.ensures.cause.later in
    record {
      same = λ yes. c.in_ok-kind.ensures.same yes ∙ c.loop-place.invariant.same yes;
      later = omega arith;
      among = among_more c.in_ok-kind.kind _ place c.loop-place.looked.missing.items _ _ c.in_ok-note.ensures.missing (seen_next spot_of folders i place c.loop-place-test.true c.place-item.is) c.loop-place.invariant.among;
      so_far = λ yes.
          looked_more a _ place c.loop-place.looked.missing.items c.loop-place.looked.blocked.items (c.loop-place.invariant.so_far yes) c.in_ok-kind.kind _ _ _
          (c.in_ok-kind.ensures.answer yes ∙ ap (λ s. kind_of (disk_of s) (spot_of place)) (c.loop-place.invariant.same yes))
          c.in_ok-note.ensures.missing c.in_ok-note.ensures.blocked (seen_next spot_of folders i place c.loop-place-test.true c.place-item.is);
    }

pub returns-clause-among : goal.returns-clause-among
returns-clause-among g c = λ s k. subst (λ l. Contains (map spot_of l) s) (take_all c.loop-place.place-index c.args.folders.now c.loop-place-test.false) (c.loop-place.invariant.among s k)
