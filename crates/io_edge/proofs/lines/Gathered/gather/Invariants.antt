use Rattle.std.proofs.Common.{◌≡◌, ◌≢◌, ◌-◌, ◌≤◌, ◌++◌, [], true, false, length}
use Rattle.io_edge.specs.Lines.{has_lf}
use Rattle.io_edge.specs.Pulls.{Pulled}
use Rattle.io_edge.proofs.lines.Gathered.gather.Given as goal

abbrev pub invariant-loop-self : goal.invariant-loop-self
invariant-loop-self g l = record {
  no_lf : has_lf l.self.line ≡ false;
  pulled : Pulled g.S.Source.gives l.initial.self.held l.initial.source (l.self.line ++ l.self.held) l.source;
  some : l.self.held ≢ [];
  ahead : g.S.Source.tells → l.initial.self.held ++ g.S.Source.left l.initial.source ≡ l.self.line ++ (l.self.held ++ g.S.Source.left l.source);
  quiet : has_lf l.initial.self.held ≡ true → (l.source ≡ l.initial.source) × (l.self.held ≡ l.initial.self.held);
  later : g.S.Source.faults l.initial.source ≤ g.S.Source.faults l.source;
}

abbrev pub decreases-loop-self : goal.decreases-loop-self
decreases-loop-self g l = 4097 - length l.self.line
