use Rattle.std.proofs.Common.{◌≡◌, ◌≤◌, ◌++◌, None}
use Rattle.std.specs.Str.Lines.{lines}
use Rattle.deploy_engine.specs.Batches.{IsGoing}
use Rattle.deploy_engine.proofs.batch.run_batch.Given as goal

abbrev pub invariant-loop : goal.invariant-loop
invariant-loop g l =
    let tree = g.T.Tree in
    let source = g.S.Source in
    let sink = g.K.Sink in
    record {
      going : IsGoing tree.tells sink.tells source.tells l.limits l.reader.given (lines (source.left l.fn.source)) (lines (l.reader.held ++ source.left l.source)) (tree.story l.fn.tree) (tree.story l.tree) (sink.written l.fn.sink) (sink.written l.sink);
      fresh : l.reader.stuck ≡ None;
      tree_faults : tree.faults l.fn.tree ≤ tree.faults l.tree;
      source_faults : source.faults l.fn.source ≤ source.faults l.source;
      sink_faults : sink.faults l.fn.sink ≤ sink.faults l.sink;
    }
