use Rattle.std.proofs.Common.{◌∙◌, ◌++◌, [], refl, sym, ap, arith, ◌≡◌, true, false}
use Rattle.std.proofs.lemmas.Result.{err_from_is_err_and}
use Rattle.io_edge.specs.Lines.{has_lf, through_line}
use Rattle.io_edge.proofs.FirstLine.{after-none}
use Rattle.io_edge.proofs.Gathering.{line_with_lf, rest_after_lf, length_with_lf, length_at_least, still_no_lf, ahead_of_more, only_the_line, line_at_end, through_at_end, after_at_end, length_at_end}
use Rattle.io_edge.proofs.NextOf.{short_text}
use Rattle.io_edge.proofs.Pulling.{nothing_yet, one_pull}
use Rattle.io_edge.proofs.lines.Gathered.gather.Given.{Over}
use Rattle.io_edge.proofs.lines.Gathered.gather.Goals as goal

pub returns-in_err-move_line-clause-err : goal.returns-in_err-move_line-clause-err
returns-in_err-move_line-clause-err g c =
    let p = err_from_is_err_and c.from_residual.result c.from_residual.ensures.1 in
    rw (p.1, p.2) (λ told _ known. (let e = c.in_err-move_line.ensures.err known in (e.0, omega (arith, e.1, length_at_least _ c.loop-self.self.line c.loop-self.self.held _ (c.loop-self.invariant.ahead told) c.loop-self.invariant.no_lf))))

pub returns-then-branch-clause-line : goal.returns-then-branch-clause-line
returns-then-branch-clause-line g c = λ told.
    line_with_lf _ c.loop-self.self.line c.loop-self.self.held _ _ (c.loop-self.invariant.ahead told) c.loop-self.invariant.no_lf (sym c.in_ok-move_line.ensures.ended ∙ c.if-branch.true) c.in_ok-move_line.ensures.line

pub returns-then-branch-clause-rest : goal.returns-then-branch-clause-rest
returns-then-branch-clause-rest g c = λ told.
    rest_after_lf _ c.loop-self.self.line c.loop-self.self.held _ _ (c.loop-self.invariant.ahead told) c.loop-self.invariant.no_lf (sym c.in_ok-move_line.ensures.ended ∙ c.if-branch.true) c.in_ok-move_line.ensures.held

pub returns-then-branch-clause-short : goal.returns-then-branch-clause-short
returns-then-branch-clause-short g c = λ told.
    omega (arith, c.in_ok-move_line.ensures.short, length_with_lf _ c.loop-self.self.line c.loop-self.self.held _ (c.loop-self.invariant.ahead told) c.loop-self.invariant.no_lf (sym c.in_ok-move_line.ensures.ended ∙ c.if-branch.true))

pub returns-then-branch-clause-text : goal.returns-then-branch-clause-text
returns-then-branch-clause-text g c =
    short_text 4096 c.loop-self.self.line c.loop-self.self.held _ c.loop-self.invariant.no_lf c.in_ok-move_line.ensures.line c.in_ok-move_line.ensures.short

pub loop-self-init : goal.loop-self-init
loop-self-init g c =
    let line : c.args.self.now.line ≡ [] = c.requires.no_line in
    record {
      no_lf = ap has_lf line;
      pulled = nothing_yet g.S.Source.gives _ c.args.self.now.held c.args.source.now line;
      some = c.requires.some;
      ahead = λ _. ap (λ x. x ++ (c.args.self.now.held ++ g.S.Source.left c.args.source.now)) (sym line);
      quiet = λ _. (refl, refl);
      later = omega arith;
    }

pub returns-in_err-fill-clause-pulls : goal.returns-in_err-fill-clause-pulls
returns-in_err-fill-clause-pulls g c = record {
  at_hand = c.fill.new.self.line ++ [];
  pulled = one_pull g.S.Source.gives _ _ c.loop-self.self.line c.loop-self.self.held _ _ c.fill.new.self.line [] c.loop-self.invariant.pulled c.loop-self.invariant.no_lf (sym c.in_ok-move_line.ensures.ended ∙ c.if-branch.false) (c.fill.ensures.line ∙ c.in_ok-move_line.ensures.line) c.in_err-fill.ensures.failed_pull.1;
}

pub returns-in_err-fill-clause-unfinished : goal.returns-in_err-fill-clause-unfinished
returns-in_err-fill-clause-unfinished g c = λ told _.
    only_the_line _ c.loop-self.self.line c.loop-self.self.held _ c.fill.new.self.line _ (c.loop-self.invariant.ahead told) c.loop-self.invariant.no_lf (sym c.in_ok-move_line.ensures.ended ∙ c.if-branch.false) (c.fill.ensures.line ∙ c.in_ok-move_line.ensures.line) (c.in_err-fill.ensures.kept told)

-- what stands where the input has ended

no_lf_held : (g : Over) (c : goal.Then-not-branch g) → has_lf c.loop-self.self.held ≡ false
no_lf_held g c = sym c.in_ok-move_line.ensures.ended ∙ c.if-branch.false

moved : (g : Over) (c : goal.Then-not-branch g) → c.fill.new.self.line ≡ c.loop-self.self.line ++ through_line c.loop-self.self.held
moved g c = c.fill.ensures.line ∙ c.in_ok-move_line.ensures.line

none_gathered : (g : Over) (c : goal.Then-not-branch g) → has_lf c.fill.new.self.line ≡ false
none_gathered g c = still_no_lf c.loop-self.self.line c.loop-self.self.held _ c.loop-self.invariant.no_lf (no_lf_held g c) (moved g c)

all_gathered : (g : Over) (c : goal.Then-not-branch g) → g.S.Source.tells → c.args.self.now.held ++ g.S.Source.left c.args.source.now ≡ c.fill.new.self.line
all_gathered g c told =
    line_at_end _ _ c.fill.new.self.held (g.S.Source.left c.fill.new.source) (ahead_of_more _ c.loop-self.self.line c.loop-self.self.held _ _ _ c.fill.new.self.held (g.S.Source.left c.fill.new.source) (c.loop-self.invariant.ahead told) (no_lf_held g c) (moved g c) c.in_ok-move_line.ensures.held (c.in_ok-fill.ensures.ahead told)) (c.in_ok-fill.ensures.more.0 c.if-not-branch.true) (c.in_ok-fill.ensures.end told c.if-not-branch.true)

pub returns-then-not-branch-clause-line : goal.returns-then-not-branch-clause-line
returns-then-not-branch-clause-line g c = λ told.
    through_at_end _ _ (all_gathered g c told) (none_gathered g c)

pub returns-then-not-branch-clause-rest : goal.returns-then-not-branch-clause-rest
returns-then-not-branch-clause-rest g c = λ told.
    after_at_end _ _ c.fill.new.self.held (g.S.Source.left c.fill.new.source) (all_gathered g c told) (none_gathered g c) (c.in_ok-fill.ensures.more.0 c.if-not-branch.true) (c.in_ok-fill.ensures.end told c.if-not-branch.true)

pub returns-then-not-branch-clause-short : goal.returns-then-not-branch-clause-short
returns-then-not-branch-clause-short g c = λ told.
    omega (arith, c.in_ok-move_line.ensures.short, length_at_end _ c.loop-self.self.line c.loop-self.self.held _ (all_gathered g c told) (none_gathered g c) (no_lf_held g c) (moved g c))

pub returns-then-not-branch-clause-text : goal.returns-then-not-branch-clause-text
returns-then-not-branch-clause-text g c =
    short_text 4096 c.loop-self.self.line c.loop-self.self.held _ c.loop-self.invariant.no_lf (moved g c) c.in_ok-move_line.ensures.short

pub returns-then-not-branch-clause-pulls : goal.returns-then-not-branch-clause-pulls
returns-then-not-branch-clause-pulls g c = record {
  at_hand = c.fill.new.self.line ++ c.fill.new.self.held;
  pulled = one_pull g.S.Source.gives _ _ c.loop-self.self.line c.loop-self.self.held _ _ c.fill.new.self.line c.fill.new.self.held c.loop-self.invariant.pulled c.loop-self.invariant.no_lf (no_lf_held g c) (moved g c) (c.in_ok-fill.ensures.pull (c.in_ok-move_line.ensures.held ∙ after-none c.loop-self.self.held (no_lf_held g c)));
}

pub loop-self-preserved : goal.loop-self-preserved
loop-self-preserved g c =
    let none : has_lf c.loop-self.self.held ≡ false = sym c.in_ok-move_line.ensures.ended ∙ c.if-branch.false in
    let line : c.fill.new.self.line ≡ c.loop-self.self.line ++ through_line c.loop-self.self.held = c.fill.ensures.line ∙ c.in_ok-move_line.ensures.line in
    record {
      pulled = one_pull g.S.Source.gives _ _ c.loop-self.self.line c.loop-self.self.held _ _ c.fill.new.self.line c.fill.new.self.held c.loop-self.invariant.pulled c.loop-self.invariant.no_lf none line (c.in_ok-fill.ensures.pull (c.in_ok-move_line.ensures.held ∙ after-none c.loop-self.self.held none));
      no_lf = still_no_lf c.loop-self.self.line c.loop-self.self.held _ c.loop-self.invariant.no_lf none line;
      some = λ empty. (let off : c.in_ok-fill.field-0 ≡ false = c.in_ok-fill.ensures.more.1 empty in let on : c.in_ok-fill.field-0 ≡ true = c.if-not-branch.false in cc);
      ahead = λ told. ahead_of_more _ c.loop-self.self.line c.loop-self.self.held _ _ _ c.fill.new.self.held (g.S.Source.left c.fill.new.source) (c.loop-self.invariant.ahead told) none line c.in_ok-move_line.ensures.held (c.in_ok-fill.ensures.ahead told);
      quiet = λ has. (let same : has_lf c.loop-self.self.held ≡ true = ap has_lf (c.loop-self.invariant.quiet has).1 ∙ has in absurd (cc));
      later = omega (arith, c.fill.ensures.cause.later);
    }
