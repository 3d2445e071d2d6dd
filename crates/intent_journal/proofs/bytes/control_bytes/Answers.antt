use Rattle.std.proofs.Common.{◌∙◌, ◌<◌, ◌≤◌, ◌-◌, length, sym, subst, arith}
use Rattle.tree_fs.specs.Spot.{spot_of}
use Rattle.tree_fs.specs.Parts.{bytes_at, IsPart}
use Rattle.tree_fs.specs.Story.{disk_of}
use Rattle.intent_journal.proofs.Pieces.{one_part}
use Rattle.intent_journal.proofs.bytes.control_bytes.Goals as goal

pub loop-done-preserved : goal.loop-done-preserved
loop-done-preserved g c =
    let tree = g.T.Tree in
    let at = spot_of c.control-at.result in
    let part = c.first_of-part.result.now in
    let taken : length part ≤ c.piece_of-most.result = c.first_of-part.ensures.within in
    let left : c.piece_of-most.result ≤ c.in_ok-size.size - c.loop-done.done = c.piece_of-most.ensures.within in
    let before : c.loop-done.done < c.in_ok-size.size = c.loop-done-test.true in
    let first : tree.faults c.args.tree.now ≤ tree.faults c.loop-done.tree = c.loop-done.invariant.faults in
    let then : tree.faults c.loop-done.tree ≤ tree.faults c.read_part.new.self = c.read_part.ensures.cause.later in
    record {
      within = omega arith;
      same = λ told. c.in_ok-read.ensures.same told ∙ c.loop-done.invariant.same told;
      faults = omega arith;
      holds = λ told.
          c.in_ok-extend_from_slice.ensures.items ∙
          (let bytes = bytes_at (disk_of (tree.story c.args.tree.now)) at in
          let read : IsPart bytes c.loop-done.done c.piece_of-most.result c.deref.result.now =
          subst (IsPart bytes c.loop-done.done c.piece_of-most.result) (sym c.deref.ensures.value)
          (subst (λ s. IsPart (bytes_at (disk_of s) at) c.loop-done.done c.piece_of-most.result c.in_ok-read.read.items) (c.loop-done.invariant.same told) (c.in_ok-read.ensures.answer told)) in
          one_part bytes _ c.loop-done.done _ _ part read c.first_of-part.ensures.same (c.loop-done.invariant.holds told));
    }
