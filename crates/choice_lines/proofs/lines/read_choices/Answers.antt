use Rattle.std.proofs.Common.{◌≡◌, ◌≢◌, ◌+◌, ◌≤◌, ◌++◌, [], sym, ap, ◌∙◌, arith, Ok, Some}
use Rattle.list_laws.proofs.Truths.{if_err-from_same}
use Rattle.io_edge.specs.declared.lines.LineError.TheVariants.{Failed, Memory}
use Rattle.choice_lines.specs.Refusals.{IsFirstRefused}
use Rattle.choice_lines.specs.declared.error.InputError.{InputError}
use Rattle.choice_lines.specs.declared.error.InputError.TheVariants.{Unread}
use Rattle.choice_lines.proofs.Reading.{reading_more, read_whole, answers_whole, refused_here, unread_here, ended, none_left}
use Rattle.choice_lines.proofs.lines.read_choices.Goals as goal

pub returns-in_err-line-clause-refused : goal.returns-in_err-line-clause-refused
returns-in_err-line-clause-refused g c = λ tells.
    let input = g.S.Source.left c.args.source.now in
    let e = c.in_err-line.field-0.0 in
    if_err-from_same (λ (x : InputError). x ≢ Unread Failed → x ≢ Unread Memory → IsFirstRefused c.args.changes.now input x) c.from_residual-in_err-line.result (Unread e) c.from_residual-in_err-line.ensures.1
    (λ no_fault some. unread_here _ _ _ _ _ _ c.loop-actions.invariant.reading tells e (c.in_err-line.ensures.answer tells c.loop-actions.invariant.fresh) (λ is. no_fault (ap Unread is)) (λ is. some (ap Unread is)))

pub returns-in_err-add_line-clause-refused : goal.returns-in_err-add_line-clause-refused
returns-in_err-add_line-clause-refused g c = λ tells.
    let input = g.S.Source.left c.args.source.now in
    let e = c.in_err-add_line.field-0.0 in
    if_err-from_same (λ (x : InputError). x ≢ Unread Failed → x ≢ Unread Memory → IsFirstRefused c.args.changes.now input x) c.from_residual-in_err-add_line.result e c.from_residual-in_err-add_line.ensures.1
    (λ no_fault some. refused_here _ _ _ _ _ _ c.loop-actions.invariant.reading tells (Ok (Some c.in-Some.line)) e
    (ap Ok (sym c.in-Some.is) ∙ c.in_ok-line.ensures.answer tells c.loop-actions.invariant.fresh)
    (c.in_err-add_line.ensures.bad some, c.in_err-add_line.ensures.some some, c.in_err-add_line.ensures.none some))

pub loop-actions-preserved : goal.loop-actions-preserved
loop-actions-preserved g c =
    let line = c.in-Some.line in
    let given : c.next_line.new.self.given ≡ c.loop-actions.reader.given + 1 = rw c.in-Some.is at c.in_ok-line.ensures.given in
    let number : line.number ≡ c.loop-actions.reader.given + 1 = rw c.in-Some.is at c.in_ok-line.ensures.number in
    let within : line.number ≤ 10000 = rw c.in-Some.is at c.in_ok-line.ensures.within in
    record {
      reading = reading_more _ _ _ _ _ _ c.loop-actions.invariant.reading c.next_line.new.self.given line (c.next_line.new.self.held ++ g.S.Source.left c.next_line.new.source) c.add_line.new.actions given number
          (λ tells. ap Ok (sym c.in-Some.is) ∙ c.in_ok-line.ensures.answer tells c.loop-actions.invariant.fresh)
          (λ tells. c.in_ok-line.ensures.rest tells)
          (λ tells. rw c.in-Some.is at (c.in_ok-line.ensures.lines tells))
          c.in_ok-add_line.ensures.added;
      fresh = c.in_ok-line.ensures.stuck;
      within = omega arith;
      faults = omega (arith, c.in_ok-line.ensures.later);
    }

pub returns-clause-end : goal.returns-clause-end
returns-clause-end g c = λ tells.
    let ahead = c.loop-actions.reader.held ++ g.S.Source.left c.loop-actions.source in
    let none : ahead ≡ [] = ended c.loop-actions.reader.given ahead (rw c.in_default.is at (c.in_ok-line.ensures.answer tells c.loop-actions.invariant.fresh)) in
    none_left c.next_line.new.self.held (g.S.Source.left c.next_line.new.source) ahead none (c.in_ok-line.ensures.rest tells)

pub returns-clause-read : goal.returns-clause-read
returns-clause-read g c = λ tells.
    let ahead = c.loop-actions.reader.held ++ g.S.Source.left c.loop-actions.source in
    read_whole _ _ _ _ _ _ c.loop-actions.invariant.reading tells
    (ended c.loop-actions.reader.given ahead (rw c.in_default.is at (c.in_ok-line.ensures.answer tells c.loop-actions.invariant.fresh)))

pub returns-clause-answers : goal.returns-clause-answers
returns-clause-answers g c = λ tells.
    let ahead = c.loop-actions.reader.held ++ g.S.Source.left c.loop-actions.source in
    answers_whole _ _ _ _ _ _ c.loop-actions.invariant.reading tells
    (ended c.loop-actions.reader.given ahead (rw c.in_default.is at (c.in_ok-line.ensures.answer tells c.loop-actions.invariant.fresh)))

pub returns-clause-fit : goal.returns-clause-fit
returns-clause-fit g c = c.loop-actions.invariant.reading.are.fit
