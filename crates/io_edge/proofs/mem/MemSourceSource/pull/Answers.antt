use Rattle.std.proofs.Common.{◌≡◌, ap, ◌∙◌, take, drop, length, ◌+◌, ◌-◌, arith, length-take}
use Rattle.io_edge.proofs.Pieces.{piece_and_rest}
use Rattle.io_edge.specs.Mem.{SourceState, next_count}
use Rattle.io_edge.proofs.mem.MemSourceSource.pull.Goals as goal

pub returns-clause-taken : goal.returns-clause-taken
returns-clause-taken c =
    piece_and_rest c.self.inside.given c.min-len.result c.self.inside.bytes.items _ _ (ap (λ (s : SourceState). s.left) c.self.view_is) (c.in_ok-piece.ensures.items ∙ ap (λ x. take c.min-len.result (take (length x - c.self.inside.given) (drop c.self.inside.given x))) c.deref-2.ensures.value)

pub returns-clause-gave : goal.returns-clause-gave
returns-clause-gave c =
    let piece : c.self.inside.piece ≡ c.args.self.now.piece = ap (λ (s : SourceState). s.piece) c.self.view_is in
    record {
      taken = returns-clause-taken c;
      at_most = omega (arith, piece, ap length c.in_ok-piece.ensures.items, length-take c.min-len.result (take (length c.deref-2.result.now - c.self.inside.given) (drop c.self.inside.given c.deref-2.result.now)), c.min.ensures, c.min-len.ensures);
      same = rw c.saturating_add-self-inside.ensures (ap (λ (s : SourceState). record s { left = drop (c.self.inside.given + c.min-len.result) c.self.inside.bytes.items; calls = next_count s.calls; faults = c.self.inside.faults }) c.self.view_is);
    }
