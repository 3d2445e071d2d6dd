use Rattle.std.proofs.Common.{◌++◌, refl, sym, ap, ◌∙◌}
use Rattle.std.proofs.lemmas.Result.{err_from_is_err_and}
use Rattle.io_edge.specs.Gathered.{LineAndHeld}
use Rattle.io_edge.specs.Reader.{ReaderState}
use Rattle.io_edge.specs.Lines.{after_line}
use Rattle.io_edge.proofs.AllLines.{lines-of_answer}
use Rattle.io_edge.proofs.NextOf.{failed_before, here_is, some_here, answer_too_many, answer_not_text, answer_line}
use Rattle.io_edge.proofs.Gathering.{nothing_taken, taken_before}
use Rattle.io_edge.proofs.Pulling.{then_for_a_line, first_pull, failed_pull}
use Rattle.io_edge.proofs.lines.LineReader.read_line.Goals as goal

pub returns-then-self-ge-MOST_LINES-clause-answer :
    goal.returns-then-self-ge-MOST_LINES-clause-answer
returns-then-self-ge-MOST_LINES-clause-answer g c = λ told.
    let held = ap (λ (a : LineAndHeld). a.held) c.clear_line.ensures.cleared ∙ ap (λ (s : ReaderState). s.held) c.self.view_is in
    let left = g.S.Source.left c.fill.new.source in
    answer_too_many c.self.inside.given _ (c.fill.new.self.held ++ left) _ (ap (λ (s : ReaderState). s.given) c.self.view_is) (here_is _ _ c.fill.new.self.held (g.S.Source.left c.args.source.now) left held (c.in_ok-fill.ensures.ahead told)) (some_here c.fill.new.self.held left _ c.if-not-branch.false c.in_ok-fill.ensures.more.1) c.if-self-ge-MOST_LINES.true

pub returns-in_err-text-clause-answer : goal.returns-in_err-text-clause-answer
returns-in_err-text-clause-answer g c =
    let p = err_from_is_err_and c.from_residual-in_err-text.result c.from_residual-in_err-text.ensures.1 in
    rw (p.1, p.2) (
    λ told.
    let held = ap (λ (a : LineAndHeld). a.held) c.clear_line.ensures.cleared ∙ ap (λ (s : ReaderState). s.held) c.self.view_is in
    let left = g.S.Source.left c.fill.new.source in
    answer_not_text c.self.inside.given _ (c.fill.new.self.held ++ left) _ c.gather.new.self.line _ (ap (λ (s : ReaderState). s.given) c.self.view_is) (here_is _ _ c.fill.new.self.held (g.S.Source.left c.args.source.now) left held (c.in_ok-fill.ensures.ahead told)) (some_here c.fill.new.self.held left _ c.if-not-branch.false c.in_ok-fill.ensures.more.1) c.if-self-ge-MOST_LINES.false (c.in_ok-gather.ensures.short told) (c.in_ok-gather.ensures.line told) c.in_err-text.ensures.err
    )

pub returns-clause-answer : goal.returns-clause-answer
returns-clause-answer g c = λ told.
    let held = ap (λ (a : LineAndHeld). a.held) c.clear_line.ensures.cleared ∙ ap (λ (s : ReaderState). s.held) c.self.view_is in
    let left = g.S.Source.left c.fill.new.source in
    answer_line c.self.inside.given _ (c.fill.new.self.held ++ left) _ c.gather.new.self.line _ (ap (λ (s : ReaderState). s.given) c.self.view_is) (here_is _ _ c.fill.new.self.held (g.S.Source.left c.args.source.now) left held (c.in_ok-fill.ensures.ahead told)) (some_here c.fill.new.self.held left _ c.if-not-branch.false c.in_ok-fill.ensures.more.1) c.if-self-ge-MOST_LINES.false (c.in_ok-gather.ensures.short told) (c.in_ok-gather.ensures.line told) c.in_ok-text.ensures.ok

pub returns-clause-lines : goal.returns-clause-lines
returns-clause-lines g c = λ told.
    let held = ap (λ (a : LineAndHeld). a.held) c.clear_line.ensures.cleared ∙ ap (λ (s : ReaderState). s.held) c.self.view_is in
    let same = here_is _ _ c.fill.new.self.held (g.S.Source.left c.args.source.now) (g.S.Source.left c.fill.new.source) held (c.in_ok-fill.ensures.ahead told) in
    lines-of_answer c.args.self.now.given _ (c.gather.new.self.held ++ g.S.Source.left c.gather.new.source) _ (returns-clause-answer g c told) (c.in_ok-gather.ensures.rest told ∙ ap after_line same)

pub returns-in_err-fill-clause-pulls : goal.returns-in_err-fill-clause-pulls
returns-in_err-fill-clause-pulls g c =
    failed_pull g.S.Source.gives _ c.clear_line.new.self.held c.args.source.now c.fill.new.source (ap (λ (a : LineAndHeld). a.held) c.clear_line.ensures.cleared ∙ ap (λ (s : ReaderState). s.held) c.self.view_is) c.in_err-fill.ensures.failed_pull.0 c.in_err-fill.ensures.failed_pull.1

pub returns-then-not-branch-clause-pulls : goal.returns-then-not-branch-clause-pulls
returns-then-not-branch-clause-pulls g c = record {
  at_hand = c.fill.new.self.held;
  pulled = first_pull g.S.Source.gives _ c.clear_line.new.self.held c.fill.new.self.held c.args.source.now c.fill.new.source (ap (λ (a : LineAndHeld). a.held) c.clear_line.ensures.cleared ∙ ap (λ (s : ReaderState). s.held) c.self.view_is) c.in_ok-fill.ensures.pull (λ some. (let is = c.in_ok-fill.ensures.quiet some in (is.0, ap (λ (a : LineAndHeld). a.held) is.1)));
}

pub returns-then-self-ge-MOST_LINES-clause-pulls : goal.returns-then-self-ge-MOST_LINES-clause-pulls
returns-then-self-ge-MOST_LINES-clause-pulls g c = record {
  at_hand = c.fill.new.self.held;
  pulled = first_pull g.S.Source.gives _ c.clear_line.new.self.held c.fill.new.self.held c.args.source.now c.fill.new.source (ap (λ (a : LineAndHeld). a.held) c.clear_line.ensures.cleared ∙ ap (λ (s : ReaderState). s.held) c.self.view_is) c.in_ok-fill.ensures.pull (λ some. (let is = c.in_ok-fill.ensures.quiet some in (is.0, ap (λ (a : LineAndHeld). a.held) is.1)));
}

pub returns-in_err-gather-clause-pulls : goal.returns-in_err-gather-clause-pulls
returns-in_err-gather-clause-pulls g c =
    then_for_a_line g.S.Source.gives _ c.fill.new.self.held c.args.source.now c.fill.new.source c.gather.new.source (first_pull g.S.Source.gives _ c.clear_line.new.self.held c.fill.new.self.held c.args.source.now c.fill.new.source (ap (λ (a : LineAndHeld). a.held) c.clear_line.ensures.cleared ∙ ap (λ (s : ReaderState). s.held) c.self.view_is) c.in_ok-fill.ensures.pull (λ some. (let is = c.in_ok-fill.ensures.quiet some in (is.0, ap (λ (a : LineAndHeld). a.held) is.1)))) c.gather.ensures.pulls

pub returns-in_err-text-clause-pulls : goal.returns-in_err-text-clause-pulls
returns-in_err-text-clause-pulls g c =
    then_for_a_line g.S.Source.gives _ c.fill.new.self.held c.args.source.now c.fill.new.source c.gather.new.source (first_pull g.S.Source.gives _ c.clear_line.new.self.held c.fill.new.self.held c.args.source.now c.fill.new.source (ap (λ (a : LineAndHeld). a.held) c.clear_line.ensures.cleared ∙ ap (λ (s : ReaderState). s.held) c.self.view_is) c.in_ok-fill.ensures.pull (λ some. (let is = c.in_ok-fill.ensures.quiet some in (is.0, ap (λ (a : LineAndHeld). a.held) is.1)))) c.gather.ensures.pulls

pub returns-clause-pulls : goal.returns-clause-pulls
returns-clause-pulls g c =
    then_for_a_line g.S.Source.gives _ c.fill.new.self.held c.args.source.now c.fill.new.source c.gather.new.source (first_pull g.S.Source.gives _ c.clear_line.new.self.held c.fill.new.self.held c.args.source.now c.fill.new.source (ap (λ (a : LineAndHeld). a.held) c.clear_line.ensures.cleared ∙ ap (λ (s : ReaderState). s.held) c.self.view_is) c.in_ok-fill.ensures.pull (λ some. (let is = c.in_ok-fill.ensures.quiet some in (is.0, ap (λ (a : LineAndHeld). a.held) is.1)))) c.gather.ensures.pulls

pub returns-in_err-fill-clause-unfinished : goal.returns-in_err-fill-clause-unfinished
returns-in_err-fill-clause-unfinished g c = λ told _.
    let held = ap (λ (a : LineAndHeld). a.held) c.clear_line.ensures.cleared ∙ ap (λ (s : ReaderState). s.held) c.self.view_is in
    nothing_taken c.args.self.now.held _ _ (sym held ∙ c.in_err-fill.ensures.failed_pull.0) (c.in_err-fill.ensures.kept told)

pub returns-in_err-gather-clause-unfinished : goal.returns-in_err-gather-clause-unfinished
returns-in_err-gather-clause-unfinished g c =
    let p = err_from_is_err_and c.from_residual-in_err-gather.result c.from_residual-in_err-gather.ensures.1 in
    rw (p.1, p.2) (λ told failed.
    let held = ap (λ (a : LineAndHeld). a.held) c.clear_line.ensures.cleared ∙ ap (λ (s : ReaderState). s.held) c.self.view_is in
    let left = g.S.Source.left c.fill.new.source in
    taken_before _ _ _ (sym (here_is _ _ c.fill.new.self.held (g.S.Source.left c.args.source.now) left held (c.in_ok-fill.ensures.ahead told))) (c.gather.ensures.unfinished told (failed_before c.gather.result _ _ _ c.in_err-gather.was refl failed)))
