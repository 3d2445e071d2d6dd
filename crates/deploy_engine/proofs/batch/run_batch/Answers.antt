use Rattle.std.proofs.Common.{◌≡◌, ◌++◌, ◌∷◌, [], sym, ap, ◌∙◌, refl, arith}
use Rattle.std.specs.declared.result.Result.TheVariants.{Err}
use Rattle.std.specs.Str.Lines.{lines}
use Rattle.io_edge.specs.Reader.{ReaderState, LineText}
use Rattle.deploy_engine.specs.declared.answer.Answer.TheVariants.{Ok}
use Rattle.deploy_engine.proofs.Causing.{rose_earlier}
use Rattle.deploy_engine.proofs.Batching.{going_start, going_more, by_end, by_line, by_unread, by_memory, ended, caused_more, none_of_source, source_blamed}
use Rattle.deploy_engine.proofs.batch.run_batch.Goals as goal

pub loop-init : goal.loop-init
loop-init g c =
    let held : c.in-Ok.reader.held ≡ [] = ap (λ (r : ReaderState). r.held) c.in-Ok.ensures in
    record {
      going = rw held (going_start _ _ _ _ _ _ _ _ (ap (λ (r : ReaderState). r.given) c.in-Ok.ensures));
      fresh = ap (λ (r : ReaderState). r.stuck) c.in-Ok.ensures;
      tree_faults = omega arith;
      source_faults = omega arith;
      sink_faults = omega arith;
    }

pub loop-preserved : goal.loop-preserved
loop-preserved g c =
    let text : c.in-Ok-Some.line.text ≡ c.as_str.result.now = sym (ap (λ (l : LineText). l.text) c.line.view_is) ∙ sym c.as_str.ensures.value in
    let rest = lines (c.next_line.new.self.held ++ g.S.Source.left c.next_line.new.source) in
    let ok : c.run_line-answer.result ≡ Ok = c.is_ok.ensures.0 c.if-not-is_ok.false in
    record {
      going = going_more _ _ _ _ _ _ _ _ _ _ _ [] c.loop.invariant.going _ (rw c.in-Ok-Some.field-0-is at c.in-Ok-Some.ensures.given) c.as_str.result.now rest _ _ (λ reads. rw c.in-Ok-Some.field-0-is at (c.in-Ok-Some.ensures.lines reads) ∙ ap (λ t. t ∷ rest) text) (rw ok at c.run_line-answer.ensures.ends) c.run_line-answer.ensures.stops c.run_line-answer.ensures.looks;
      fresh = c.in-Ok-Some.ensures.stuck;
      tree_faults = omega (arith, c.run_line-answer.ensures.tree_later);
      source_faults = omega (arith, c.in-Ok-Some.ensures.later);
      sink_faults = omega (arith, c.run_line-answer.ensures.sink_later);
    }

pub returns-in_default-clause-batched : goal.returns-in_default-clause-batched
returns-in_default-clause-batched g c = by_memory _ _ _ _ _ _ _ _ _ _ _ _ (going_start _ _ _ _ _ _ _ 0 refl)

pub returns-then-not-is_ok-clause-batched : goal.returns-then-not-is_ok-clause-batched
returns-then-not-is_ok-clause-batched g c =
    let text : c.in-Ok-Some.line.text ≡ c.as_str.result.now = sym (ap (λ (l : LineText). l.text) c.line.view_is) ∙ sym c.as_str.ensures.value in
    let rest = lines (c.next_line.new.self.held ++ g.S.Source.left c.next_line.new.source) in
    by_line _ _ _ _ _ _ _ _ _ _ _ _ c.loop.invariant.going c.as_str.result.now rest _ _ _ (λ reads. rw c.in-Ok-Some.field-0-is at (c.in-Ok-Some.ensures.lines reads) ∙ ap (λ t. t ∷ rest) text) c.run_line-answer.ensures.ends c.run_line-answer.ensures.stops c.run_line-answer.ensures.looks (none_of_source _ _ _ c.run_line-answer.ensures.causes)

pub returns-then-not-is_ok-clause-causes : goal.returns-then-not-is_ok-clause-causes
returns-then-not-is_ok-clause-causes g c =
    caused_more _ _ _ _ _ _ _ (rose_earlier _ _ _ c.loop.invariant.tree_faults) (λ no_way. absurd no_way) (rose_earlier _ _ _ c.loop.invariant.sink_faults) c.run_line-answer.ensures.causes

pub returns-in-Ok-None-clause-batched : goal.returns-in-Ok-None-clause-batched
returns-in-Ok-None-clause-batched g c =
    by_end _ _ _ _ _ _ _ _ _ _ _ _ c.loop.invariant.going (λ reads. ap lines (ended c.loop.reader.given (c.loop.reader.held ++ g.S.Source.left c.loop.source) (rw c.in-Ok-None.field-0-is at (c.in-Ok-None.ensures.answer reads c.loop.invariant.fresh))))

pub returns-in-Err-clause-batched : goal.returns-in-Err-clause-batched
returns-in-Err-clause-batched g c = by_unread _ _ _ _ _ _ _ _ _ _ _ _ c.loop.invariant.going _ (c.loop.reader.held ++ g.S.Source.left c.loop.source) _ _ (λ reads. refl) (λ reads. c.in-Err.ensures.answer reads c.loop.invariant.fresh) c.tell_unread.ensures.ends
    (λ reads is. c.in-Err.ensures.unfinished reads c.loop.invariant.fresh (ap Err (source_blamed _ _ _ _ c.tell_unread.ensures.causes is)))

pub returns-in-Err-clause-causes : goal.returns-in-Err-clause-causes
returns-in-Err-clause-causes g c =
    caused_more _ _ _ _ _ _ _ (λ no_way. absurd no_way) (λ is. rose_earlier _ _ _ c.loop.invariant.source_faults (c.in-Err.ensures.failed c.loop.invariant.fresh (ap Err is))) (rose_earlier _ _ _ c.loop.invariant.sink_faults) c.tell_unread.ensures.causes

pub returns-clause-batched : goal.returns-clause-batched
returns-clause-batched g c = by_memory _ _ _ _ _ _ _ _ _ _ _ _ c.loop.invariant.going
